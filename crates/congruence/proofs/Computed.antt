-- Closing as a function that computes: passes until one adds nothing. So congruence by a list of pairs is decided. Assumes nothing.
use mathlib.Core.Path.{◌≡◌, refl, sym}
use mathlib.Core.Bool.{Bool, true, false, true≢false}
use mathlib.Core.List.{List, [], ◌∷◌}
use Prim.Native.Nat.{ℕ, zero, suc, ◌+◌, ◌<◌}
use native.Mathlib.Decide.{ℕ_discrete}
use native.Mathlib.Omega.{arith}
use lib.ListN.{length, get_or}
use lib.Bits.{bit_or}
use lib.Dec.{eqb}
use borrow.Author.Tests.{eqb-true, eqb-false}
use Rattle.sets.specs.Sets.{Within}
use Rattle.sets.proofs.Inclusion.{within_trans, within_left, within_right, within_le}
use Rattle.congruence.specs.Congruence.{Congruent, Listed}
use Rattle.congruence.specs.Closing.{Grows, Closed, Closes}
use Rattle.congruence.specs.Closing.Grows.{nothing}
use Rattle.congruence.proofs.Growth.{grown_on, grown_under}
use Rattle.congruence.proofs.Passes.{passed, whole, passed_closed}
use Rattle.congruence.proofs.Deciding.{closing_decides}

-- ---- passes until one adds nothing

-- from m on; ended where the last pass added nothing
unfoldable pub passes : ℕ → Bool → List ℕ → List ℕ → ℕ → ℕ
passes zero ended ls rs m = m
passes (suc f) true ls rs m = m
passes (suc f) false ls rs m = passes f (eqb (passed ls rs (length ls) m) m) ls rs (passed ls rs (length ls) m)

-- the union of a list's sets
unfoldable pub joined : List ℕ → ℕ
joined [] = 0
joined (a ∷ rest) = bit_or a (joined rest)

-- no mask on the way is larger than the union of the set and all sides, and that many passes are enough
unfoldable pub top : List ℕ → List ℕ → ℕ → ℕ
top ls rs set = bit_or (bit_or (joined ls) (joined rs)) set

unfoldable pub closing : List ℕ → List ℕ → ℕ → ℕ
closing ls rs set = passes (suc (top ls rs set)) false ls rs set

within_joined : (sets : List ℕ) (i : ℕ) → Within (get_or sets i 0) (joined sets)
unfolding joined
within_joined [] i = record { joins = refl }
within_joined (a ∷ rest) zero = within_left a (joined rest)
within_joined (a ∷ rest) (suc i) = within_trans (within_joined rest i) (within_right a (joined rest))

module _ (ls rs : List ℕ) (set : ℕ) where
  under_top : {m : ℕ} → Grows (Listed ls rs) set m → Within m (top ls rs set)
  unfolding top
  under_top g =
      let all = within_left (bit_or (joined ls) (joined rs)) set in
      grown_under (λ a b r. (
        rw (← r.left) (within_trans (within_joined ls r.at) (within_trans (within_left (joined ls) (joined rs)) all)),
        rw (← r.right) (within_trans (within_joined rs r.at) (within_trans (within_right (joined ls) (joined rs)) all)),
      )) (within_right (bit_or (joined ls) (joined rs)) set) g

  passes_closes : (f : ℕ) (ended : Bool) (m : ℕ) → Grows (Listed ls rs) set m → (ended ≡ true → Closed (Listed ls rs) m)
      → (ended ≡ false → top ls rs set < m + f) → Closes (Listed ls rs) set (passes f ended ls rs m)
  unfolding passes
  passes_closes zero true m g s l = record { grown = g; still = s refl }
  passes_closes (suc f) true m g s l = record { grown = g; still = s refl }
  passes_closes zero false m g s l = absurd (omega (arith, l refl, within_le (under_top g)))
  passes_closes (suc f) false m g s l =
      let m' = passed ls rs (length ls) m in
      let p = whole ls rs m in
      passes_closes f (eqb m' m) m' (grown_on g p.grown.keeps) (λ e. passed_closed (omega arith) p (eqb-true m' m e))
      (λ e. let n = eqb-false m' m e in omega (arith, l refl, within_le p.grown.within))

  pub closing_closes : Closes (Listed ls rs) set (closing ls rs set)
  unfolding closing
  closing_closes = passes_closes (suc (top ls rs set)) false set nothing (λ e. absurd (true≢false (sym e))) (λ e. omega arith)

pub congruent_dec : (ls rs : List ℕ) (a b : ℕ) → Dec (Congruent (Listed ls rs) a b)
congruent_dec ls rs a b = pick (ℕ_discrete (closing ls rs a) (closing ls rs b))
  where
    pick : Dec (closing ls rs a ≡ closing ls rs b) → Dec (Congruent (Listed ls rs) a b)
    pick (yes e) = yes ((closing_decides (closing_closes ls rs a) (closing_closes ls rs b)).1 e)
    pick (no f) = no (λ h. f ((closing_decides (closing_closes ls rs a) (closing_closes ls rs b)).0 h))
