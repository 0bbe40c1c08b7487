-- One pass over listed pairs, as a function that computes, and where the code's pass stands. Assumes nothing.
use mathlib.Core.Path.{◌≡◌, refl, sym, ap, ◌∙◌}
use mathlib.Core.Logic.{◌↔◌, ◌⊎◌, ⊎_elim}
use mathlib.Core.Bool.{Bool, true, false, cond}
use mathlib.Core.List.{List, ◌∷◌}
use Prim.Native.Nat.{ℕ, zero, suc, ◌+◌, ◌-◌, ◌^◌, ◌≤◌, ◌<◌}
use native.Mathlib.Numerals.{add-one}
use native.Mathlib.Omega.{arith}
use lib.ListN.{length, get_or, drop}
use lib.Seq.{drop-cons}
use lib.Bits.{bit_or, bit_and}
use lib.Dec.{eqb}
use borrow.Author.Tests.{eqb-true, eqb-false}
use Rattle.std.proofs.Common.{rules}
use Rattle.std.proofs.lemmas.List.{length-drop}
use Rattle.verdict.specs.Tests.{Decides}
use Rattle.verdict.proofs.Flags.{decides_determined}
use Rattle.sets.specs.Sets.{Within}
use Rattle.sets.proofs.Inclusion.{within_trans, within_test}
use Rattle.sets.proofs.Goodness.{good_within_all}
use Rattle.sets.proofs.Growing.{Stepped, Passed, took, passed_by, stepped_both, passed_none, passed_more, passed_all}
use Rattle.pattern.specs.Pattern.{AllGood}
use Rattle.congruence.specs.Congruence.{Listed}
use Rattle.congruence.specs.Closing.{added, Grows, Closed}
use Rattle.congruence.specs.Closing.Grows.{nothing, right, left}

-- pair j of the list adds nothing to m
abbrev pub StillAt : List ℕ → List ℕ → ℕ → ℕ → Type 0
StillAt ls rs j m = Within (get_or ls j 0) m ↔ Within (get_or rs j 0) m

-- a flag that says whether a lies within m: so much is added
pub added_by : {a m : ℕ} {flag : Bool} (b : ℕ) → Decides (Within a m) flag → cond flag (bit_or b m) m ≡ added a b m
unfolding added
added_by {a} {m} {flag} b d = rw (decides_determined flag _ d test) refl
  where
    test : Decides (Within a m) (eqb (bit_and a m) a)
    test = record { sound = λ e. (within_test a m).0 (eqb-true _ _ e); complete = λ e w. eqb-false _ _ e ((within_test a m).1 w) }

-- where a does not lie within m, nothing is added
added_none : {a m : ℕ} {flag : Bool} (b : ℕ) → Decides (Within a m) flag → flag ≡ false → added a b m ≡ m
added_none {m = m} b d e = sym (added_by b d) ∙ ap (λ (f : Bool). cond f (bit_or b m) m) e

-- m after the first i pairs
unfoldable pub passed : List ℕ → List ℕ → ℕ → ℕ → ℕ
passed ls rs zero m = m
passed ls rs (suc i) m = added (get_or rs i 0) (get_or ls i 0) (added (get_or ls i 0) (get_or rs i 0) (passed ls rs i m))

added_stepped : {Keeps : ℕ → Type 0} (a b m : ℕ) → Keeps m → (Within a m → Keeps (bit_or b m)) → Stepped Keeps (Within a m → Within b m) m (added a b m)
unfolding added
added_stepped {Keeps} a b m k f = pick (eqb (bit_and a m) a) refl
  where
    pick : (t : Bool) → eqb (bit_and a m) a ≡ t → Stepped Keeps (Within a m → Within b m) m (cond t (bit_or b m) m)
    pick true e = took (f ((within_test a m).0 (eqb-true _ _ e))) refl
    pick false e = passed_by k (λ w. eqb-false _ _ e ((within_test a m).1 w)) refl

module _ (ls rs : List ℕ) where
  passed_first : (m i : ℕ) → i ≤ length ls → Passed (Grows (Listed ls rs) m) (StillAt ls rs) (length ls) m i (passed ls rs i m)
  unfolding passed
  passed_first m zero l = passed_none nothing
  passed_first m (suc i) l =
      let p = passed_first m i (omega arith) in
      let a = get_or ls i 0 in
      let b = get_or rs i 0 in
      let pair : Listed ls rs a b = record { at = i; below = l; left = refl; right = refl } in
      let s = added_stepped a b (passed ls rs i m) p.grown.keeps (λ w. right p.grown.keeps pair w) in
      let t = added_stepped b a _ s.grown.keeps (λ w. left s.grown.keeps pair w) in
      rw add-one at (passed_more i l p (stepped_both (λ k. Within b k → Within a k) s t))

  pub whole : (m : ℕ) → Passed (Grows (Listed ls rs) m) (StillAt ls rs) (length ls) m (length ls) (passed ls rs (length ls) m)
  whole m = passed_first m (length ls) (omega arith)

-- a whole pass that added nothing leaves a closed mask
pub passed_closed : {Keeps : ℕ → Type 0} {ls rs : List ℕ} {before m i : ℕ} → length ls ≤ i → Passed Keeps (StillAt ls rs) (length ls) before i m → m ≡ before
    → Closed (Listed ls rs) m
passed_closed l p e a b r = rw (← r.left, ← r.right) (passed_all l p e r.at r.below)

-- a set that has every state adds nothing by pairs of sets of those states
pub every_state_closed : {n mask : ℕ} {ls rs : List ℕ} → length ls ≡ length rs → AllGood n ls → AllGood n rs → Within (2 ^ n - 1) mask → Closed (Listed ls rs) mask
every_state_closed t f g w a b r = (
  λ v. within_trans (good_within_all (rw r.right at (g r.at (omega (arith, r.below, t))))) w,
  λ v. within_trans (good_within_all (rw r.left at (f r.at r.below))) w,
)

-- ---- where the code's pass stands: these lefts and rights are left of the list, and m is the set after the pairs before them

pub record Walked (ls rs : List ℕ) (set : ℕ) (lefts rights : List ℕ) (m : ℕ) : Type 0 where
  pub at : ℕ
  pub bound : at ≤ length ls
  pub lefts_left : lefts ≡ drop at ls
  pub rights_left : rights ≡ drop at rs
  pub mask : m ≡ passed ls rs at set

-- what stands in front of the rest of a list stands at the place where the rest begins
record Front (xs : List ℕ) (at y : ℕ) (ys : List ℕ) : Type 0 where
  pub below : at < length xs
  pub here : get_or xs at 0 ≡ y
  pub rest : ys ≡ drop (at + 1) xs

front : (xs : List ℕ) (at : ℕ) {y : ℕ} {ys : List ℕ} → y ∷ ys ≡ drop at xs → Front xs at y ys
front xs at {y} {ys} e =
    let below : at < length xs = omega (arith, ap length e, length-drop at xs) in
    let both : y ∷ ys ≡ get_or xs at 0 ∷ drop (at + 1) xs = e ∙ drop-cons xs at 0 below ∙ rw add-one refl in
    record { below = below; here = search rules; rest = search rules }

module _ {ls rs : List ℕ} {set : ℕ} where
  pub walked_first : Walked ls rs set ls rs set
  unfolding passed
  walked_first = record { at = 0; bound = omega arith; lefts_left = refl; rights_left = refl; mask = refl }

  module _ {lefts rights : List ℕ} {m : ℕ} (w : Walked ls rs set lefts rights m) where
    pub walked_next : {lefts' rights' : List ℕ} {a b : ℕ} → lefts ≡ a ∷ lefts' → rights ≡ b ∷ rights' → Walked ls rs set lefts' rights' (added b a (added a b m))
    unfolding passed
    walked_next {lefts'} {rights'} {a} {b} e f =
        let l = front ls w.at (sym e ∙ w.lefts_left) in
        let r = front rs w.at (sym f ∙ w.rights_left) in
        record { at = w.at + 1; bound = omega (arith, l.below); lefts_left = l.rest; rights_left = r.rest; mask = rw (add-one, l.here, r.here, w.mask) refl }

    -- past a pair of which neither side lies within m
    pub walked_past : {lefts' rights' : List ℕ} {a b : ℕ} {left right : Bool} → lefts ≡ a ∷ lefts' → rights ≡ b ∷ rights'
        → Decides (Within a m) left → left ≡ false → Decides (Within b m) right → right ≡ false → Walked ls rs set lefts' rights' m
    walked_past {a = a} {b} e f d n d' n' =
        let stays : added b a (added a b m) ≡ m = ap (added b a) (added_none b d n) ∙ added_none a d' n' in
        rw stays at (walked_next e f)

    pub walked_grown : Grows (Listed ls rs) set m
    walked_grown = rw w.mask (passed_first ls rs set w.at w.bound).grown.keeps

    -- to the end of the list, and nothing was added
    pub walked_closed : length ls ≡ length rs → (length lefts ≡ 0) ⊎ (length rights ≡ 0) → m ≡ set → Closed (Listed ls rs) m
    walked_closed t n e =
        let l : length ls ≤ w.at = ⊎_elim
        (λ z. omega (arith, z, ap length w.lefts_left, length-drop w.at ls))
        (λ z. omega (arith, z, t, ap length w.rights_left, length-drop w.at rs)) n in
        rw w.mask (passed_closed l (passed_first ls rs set w.at w.bound) (sym w.mask ∙ e))
