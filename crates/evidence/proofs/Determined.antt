-- One answer to each offer. Assumes nothing.
use mathlib.Core.Path.{◌≡◌, refl, ap}
use mathlib.Core.List.{List}
use Prim.Native.Nat.{ℕ, ◌<◌}
use native.Mathlib.Omega.{arith}
use native.Mathlib.Decide.{dec_lt}
use Rattle.std.specs.Prelude.{Result, Ok, Err}
use Rattle.verdict.specs.declared.Refusal.{Refusal}
use Rattle.verdict.proofs.Ordered.{apart, one_number}
use Rattle.verdict.proofs.Refusals.{one_refusal}
use Rattle.pattern.specs.Pattern.{Pattern}
use Rattle.evidence.specs.Evidence.{Offer, HoldsAt, HoldBelow, ByPairs, Checked}
use Rattle.evidence.specs.Evidence.ByPairs.{all_hold, fails}
use Rattle.evidence.specs.Evidence.Checked.{refuses, not_started, started}
use Rattle.evidence.specs.declared.Answer.{Answer}
use Rattle.evidence.specs.declared.Answer.TheVariants.{NotProved}

-- of two failing pairs below which all hold neither is the lower
lowest : {P : Pattern} {lefts rights : List ℕ} {i j : ℕ} → HoldBelow P lefts rights i → (HoldsAt P lefts rights i → ⊥)
    → HoldBelow P lefts rights j → (HoldsAt P lefts rights j → ⊥) → i ≡ j
lowest {P} {lefts} {rights} {i} {j} p f q g = pick (dec_lt i j) (dec_lt j i)
  where
    pick : Dec (i < j) → Dec (j < i) → i ≡ j
    pick (yes l) d = absurd (f (q i l))
    pick (no a) (yes l) = absurd (g (p j l))
    pick (no a) (no b) = omega arith

pub by_pairs_determined : {P : Pattern} {lefts rights : List ℕ} {r s : Answer} → ByPairs P lefts rights r → ByPairs P lefts rights s → r ≡ s
by_pairs_determined (all_hold h) (all_hold k) = refl
by_pairs_determined (all_hold h) (fails l q g) = absurd (g (h _ l))
by_pairs_determined (fails l p f) (all_hold k) = absurd (f (k _ l))
by_pairs_determined (fails l p f) (fails m q g) = ap NotProved (lowest p f q g)

-- two answers that the check may give to one offer are equal
pub check_determined : {o : Offer} {r s : Result Answer Refusal} → Checked o r → Checked o s → r ≡ s
check_determined (refuses e) (refuses d) = ap Err (one_refusal (one_number e d))
check_determined (refuses e) (not_started d g) = apart d e
check_determined (refuses e) (started d k q) = apart d e
check_determined (not_started e f) (refuses d) = apart e d
check_determined (not_started e f) (not_started d g) = refl
check_determined (not_started e f) (started d k q) = absurd (f k)
check_determined (started e h p) (refuses d) = apart e d
check_determined (started e h p) (not_started d g) = absurd (g h)
check_determined (started e h p) (started d k q) = ap Ok (by_pairs_determined p q)
