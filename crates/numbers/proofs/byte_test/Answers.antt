-- `numbers::byte_test` says by cases what the two tests say in their order.
use Rattle.std.proofs.Common.{◌≡◌, ◌∷◌, [], ℕ, Result, refl, sym, ◌∙◌, nat_eq, nat_lt}
use mathlib.Core.Bool.{Bool, true, false, not, ◌||◌}
use borrow.Author.Tests.{lt-ltb, le-ltb, ne_eqb, eqb-true}
use Rattle.verdict.specs.declared.Refusal.{Refusal}
use Rattle.verdict.specs.declared.Refusal.TheVariants.{Padded, TooBig}
use Rattle.verdict.specs.Refusals.{said}
use Rattle.verdict.specs.Tests.{need, held, in_order}
use Rattle.verdict.proofs.Ordered.{order_last}
use Rattle.verdict.proofs.Refusals.{said_held}
use Rattle.numbers.specs.Numbers.{byte_test}
use Rattle.numbers.proofs.byte_test.Goals as goal
use Rattle.numbers.proofs.byte_test.Goals.{then-i-lt9, else-i-lt9}

-- a group of nothing is needless but as the first
nothing : (i : ℕ) {b : ℕ} {r : Result (Unit {0}) Refusal} → b ≡ 0 → r ≡ held (nat_eq i 0) Padded → said r ≡ byte_test i b
unfolding byte_test held need in_order
nothing i e h = rw (e, h) (pick (nat_eq i 0) refl)
  where
    pick : (t : Bool) → nat_eq i 0 ≡ t → said (held t Padded) ≡ in_order (need (t || false) 21 ∷ need (nat_lt i 9 || false) 23 ∷ [])
    pick true e = rw (eqb-true i 0 e) refl
    pick false e = refl

-- any other is held to the second test alone
other : (i : ℕ) {b : ℕ} → (b ≡ 0 → ⊥) → byte_test i b ≡ need (nat_lt i 9 || nat_eq b 1) 23
unfolding byte_test need in_order
other i {b} n = rw (ne_eqb b 0 n) (pick (nat_eq i 0))
  where
    pick : (t : Bool) → in_order (need (t || true) 21 ∷ need (nat_lt i 9 || nat_eq b 1) 23 ∷ []) ≡ need (nat_lt i 9 || nat_eq b 1) 23
    pick true = order_last _
    pick false = order_last _

-- a flag made of two tests, of which the second is looked at where the first fails
holds : {a flag : Bool} (b : Bool) → a ≡ true → flag ≡ a → flag ≡ (a || b)
holds b e f = rw (f, e)

fails : {a b flag : Bool} → a ≡ false → flag ≡ b → flag ≡ (a || b)
fails e f = rw (f, e)

pub returns-then-b-eq0 : goal.returns-then-b-eq0
returns-then-b-eq0 c = nothing c.args.i c.if-b-eq0.true c.need.ensures

pub returns : goal.returns
returns c =
    let flag : c.if-i-lt9.need ≡ (nat_lt c.args.i 9 || nat_eq c.args.b 1) =
    elim c.if-i-lt9.branch [ then-i-lt9 w ↦ holds _ (lt-ltb _ _ w.if-i-lt9.true) w.need-is | else-i-lt9 w ↦ fails (le-ltb _ _ w.if-i-lt9.false) w.need-is ] in
    let tells : said c.need-2.result ≡ need (nat_lt c.args.i 9 || nat_eq c.args.b 1) 23 = rw (c.need-2.ensures, flag) (said_held _ TooBig) in
    tells ∙ sym (other c.args.i c.if-b-eq0.false)
