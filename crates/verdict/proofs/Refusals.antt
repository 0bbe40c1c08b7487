-- The refusals of the code, by their numbers: what a `Result` says, and what a caller learns who passes an `Err` on. Assumes nothing.
use mathlib.Core.Path.{◌≡◌, refl, sym, ap, ◌∙◌}
use mathlib.Core.Bool.{Bool, true, false, ◌&&◌, and-eq-true_iff}
use mathlib.Core.List.{List, [], ◌∷◌, Memᴰ}
use Prim.Native.Nat.{ℕ, ◌-◌, ◌≤◌}
use native.Mathlib.Omega.{arith}
use lib.ListN.{get_or}
use lib.Dec.{eqb}
use borrow.Author.Tests.{eqb-true}
use Rattle.std.specs.Prelude.{Result, Ok, Err}
use Rattle.verdict.specs.declared.Refusal.{Refusal}
use Rattle.verdict.specs.declared.Refusal.TheVariants.{BadSize, BadTable, BadSet, BadRoom, NoRoom, BadLetter, BadList, Cut, Padded, Tail, TooBig, Syntax, TooMany, TooDeep}
use Rattle.verdict.specs.Verdict.{Verdict}
use Rattle.verdict.specs.Tests.{need, held, in_order}
use Rattle.verdict.specs.Refusals.{number, said}
use Rattle.verdict.proofs.Ordered.{order_last}

-- a test of the code is the scope's test of that number
pub said_held : (b : Bool) (why : Refusal) → said (held b why) ≡ need b (number why)
unfolding held need
said_held true why = refl
said_held false why = refl

-- ---- tests in order, each passed on by `?`

pub stops : {r : Result (Unit {0}) Refusal} {why : Refusal} {v : Verdict} (tests : List Verdict) → r ≡ Err why → said (Err why) ≡ v → said r ≡ in_order (v ∷ tests)
unfolding in_order
stops tests e h = rw (e, ← h) refl

pub goes_on : {u : Unit {0}} {v w : Verdict} (tests : List Verdict) → said (Ok u) ≡ v → w ≡ in_order tests → w ≡ in_order (v ∷ tests)
unfolding in_order
goes_on tests h e = rw (e, ← h) refl

pub ends : {v w : Verdict} → w ≡ v → w ≡ in_order (v ∷ [])
ends {v} e = e ∙ sym (order_last v)

-- ---- a number names one refusal

-- the refusals by their numbers, from 10 on; for a number that no refusal has, BadSize
abbrev named : ℕ → Refusal
named w = get_or (BadSize ∷ BadTable ∷ BadSet ∷ BadRoom ∷ NoRoom ∷ BadLetter ∷ BadList ∷ BadSize ∷ BadSize ∷ BadSize ∷ Cut ∷ Padded ∷ Tail ∷ TooBig ∷ BadSize ∷ BadSize ∷ BadSize ∷ BadSize ∷ BadSize ∷ BadSize ∷ Syntax ∷ TooMany ∷ TooDeep ∷ []) (w - 10) BadSize

named_number : (why : Refusal) → named (number why) ≡ why
named_number BadSize = refl
named_number BadTable = refl
named_number BadSet = refl
named_number BadRoom = refl
named_number NoRoom = refl
named_number BadLetter = refl
named_number BadList = refl
named_number Cut = refl
named_number Padded = refl
named_number Tail = refl
named_number TooBig = refl
named_number Syntax = refl
named_number TooMany = refl
named_number TooDeep = refl

pub one_refusal : {a b : Refusal} → number a ≡ number b → a ≡ b
one_refusal {a} {b} e = sym (named_number a) ∙ ap named e ∙ named_number b

-- each of the numbers names a refusal
abbrev pub all_named : List ℕ → Bool
all_named [] = true
all_named (w ∷ numbers) = eqb (number (named w)) w && all_named numbers

pub has_name : {w : ℕ} (numbers : List ℕ) → all_named numbers ≡ true → Memᴰ w numbers → (why : Refusal) × (number why ≡ w)
has_name [] e m = elim m [ ]
has_name {w} (x ∷ numbers) e (Memᴰ.head d) = (named x, eqb-true _ _ ((and-eq-true_iff _ _).0 e).0 ∙ sym d)
has_name (x ∷ numbers) e (Memᴰ.tail m) = has_name numbers ((and-eq-true_iff _ _).0 e).1 m

-- no answer has the number of a refusal
pub number_high : (why : Refusal) → 10 ≤ number why
number_high BadSize = omega arith
number_high BadTable = omega arith
number_high BadSet = omega arith
number_high BadRoom = omega arith
number_high NoRoom = omega arith
number_high BadLetter = omega arith
number_high BadList = omega arith
number_high Cut = omega arith
number_high Padded = omega arith
number_high Tail = omega arith
number_high TooBig = omega arith
number_high Syntax = omega arith
number_high TooMany = omega arith
number_high TooDeep = omega arith
