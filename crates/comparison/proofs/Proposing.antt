-- The candidate as the code makes it is the candidate of its number. Assumes nothing.
use mathlib.Core.Path.{◌≡◌, refl}
use mathlib.Core.List.{List}
use Prim.Native.Nat.{ℕ, zero, suc, ◌+◌, ◌-◌, ◌*◌, ◌/◌, ◌%◌, ◌≤◌, ◌<◌}
use native.Mathlib.Nat.{div-lt_iff_lt-mul, mul_comm}
use native.Mathlib.Omega.{arith}
use lib.ListN.{get_or}
use Rattle.pattern.specs.Language.{next}
use Rattle.walk.specs.Walk.{Question, candidate}
use Rattle.comparison.specs.Inner.{Proposed}

module _ {Q : Question} {lefts rights : List ℕ} where
  pub proposed_first : (examined : ℕ) → examined ≡ 0
      → Proposed Q lefts rights examined (record { left = Q.left; right = Q.right; parent = 0; letter = 0 })
  unfolding candidate
  proposed_first zero z = record { all = λ kept l r. refl }
  proposed_first (suc e) z = absurd (omega arith)

  pub proposed_later : {a b : ℕ} (examined e : ℕ) → examined ≡ suc e
      → a ≡ next Q.pattern (get_or lefts (e / Q.pattern.letters) 0) (e % Q.pattern.letters)
      → b ≡ next Q.pattern (get_or rights (e / Q.pattern.letters) 0) (e % Q.pattern.letters)
      → Proposed Q lefts rights examined (record { left = a; right = b; parent = e / Q.pattern.letters; letter = e % Q.pattern.letters })
  unfolding candidate
  proposed_later examined e z p q = rw z (record { all = λ kept l r. rw (p, q, l, r) refl })

-- the parent of a later candidate is a record that is kept
pub parent_below : (examined k n : ℕ) → 1 ≤ k → (examined ≡ 0 → ⊥) → examined < 1 + k * n → (examined - 1) / k < n
parent_below examined k n some f l = (div-lt_iff_lt-mul some).1 (omega (arith, mul_comm n k))
