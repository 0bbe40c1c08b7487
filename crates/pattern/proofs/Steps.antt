-- The laws of a step by a letter: by members, over unions, from the empty set, within the states. Assumes nothing.
use mathlib.Core.Path.{◌≡◌}
use mathlib.Core.Logic.{◌↔◌, ⊎_elim}
use Prim.Native.Nat.{ℕ, zero, suc, ◌+◌, ◌*◌, ◌≤◌, ◌<◌}
use native.Mathlib.Nat.{one-mul, zero-mul, eq-or-lt_of_le, le_of_suc-le-suc, mul-le-mul_right, suc-mul}
use native.Mathlib.Decide.{dec_le}
use native.Mathlib.Omega.{arith}
use lib.ListN.{length}
use lib.Bits.{bit_or}
use Rattle.sets.specs.Sets.{bit, Has, Good}
use Rattle.sets.proofs.Bits.{has_union, empty_has_none}
use Rattle.sets.proofs.Inclusion.{has_left, has_right, members_ext}
use Rattle.sets.proofs.Goodness.{good_bits}
use Rattle.pattern.specs.Pattern.{Pattern, row, Valid}
use Rattle.pattern.specs.Language.{union_below, next}

-- the place of a row lies within the table
pub row_below : (n k s a : ℕ) → s < n → a < k → s * k + a < n * k
row_below n k s a h l = omega (arith, suc-mul s k, mul-le-mul_right k h)

-- a member below n of the set has t in what it leads to
abbrev From : (ℕ → ℕ) → ℕ → ℕ → ℕ → Type 0
From f set n t = (s : ℕ) × (s < n) × Has set s × Has (f s) t

module _ (f : ℕ → ℕ) (set : ℕ) where
  from_union : (n t : ℕ) → Has (union_below f set n) t → From f set n t
  unfolding union_below
  from_union zero t h = absurd (empty_has_none t h)
  from_union (suc n) t h =
      ⊎_elim (λ g. let r = from_union n t g in (r.0, omega arith, r.2, r.3)) (at (dec_le 1 (bit set n))) (has_union _ _ t h)
    where
      at : Dec (1 ≤ bit set n) → Has (bit set n * f n) t → From f set (suc n) t
      at (yes p) g =
          let e : bit set n ≡ 1 = omega arith in
          (n, omega arith, record { is_one = e }, rw (e, one-mul) at g)
      at (no p) g =
          let e : bit set n ≡ 0 = omega arith in
          absurd (empty_has_none t (rw (e, zero-mul) at g))

  to_union : (n t s : ℕ) → s < n → Has set s → Has (f s) t → Has (union_below f set n) t
  unfolding union_below
  to_union zero t s l h g = omega arith
  to_union (suc n) t s l h g =
      ⊎_elim
      (λ e.
      let z : bit set n ≡ 1 = rw e at h.is_one in
      has_right (union_below f set n) (bit set n * f n) (rw (z, one-mul) (rw e at g)))
      (λ l'. has_left _ _ (to_union n t s l' h g))
      (eq-or-lt_of_le (le_of_suc-le-suc l))

-- t is in the successor exactly when a member of the set has t in its row
pub next_members : (P : Pattern) (set a t : ℕ) → Has (next P set a) t ↔ From (λ s. row P s a) set P.states t
unfolding next
next_members P set a t = (
  from_union (λ s. row P s a) set P.states t,
  λ r. to_union (λ s. row P s a) set P.states t r.0 r.1 r.2 r.3,
)

-- a step takes a union to the union of the steps
pub next_union : (P : Pattern) (a x y : ℕ) → next P (bit_or x y) a ≡ bit_or (next P x a) (next P y a)
next_union P a x y = members_ext _ _ to fro
  where
    to : (t : ℕ) → Has (next P (bit_or x y) a) t → Has (bit_or (next P x a) (next P y a)) t
    to t h =
        let r = (next_members P (bit_or x y) a t).0 h in
        ⊎_elim
        (λ g. has_left _ (next P y a) ((next_members P x a t).1 (r.0, r.1, g, r.3)))
        (λ g. has_right (next P x a) _ ((next_members P y a t).1 (r.0, r.1, g, r.3)))
        (has_union x y r.0 r.2)

    fro : (t : ℕ) → Has (bit_or (next P x a) (next P y a)) t → Has (next P (bit_or x y) a) t
    fro t h =
        ⊎_elim
        (λ g. let r = (next_members P x a t).0 g in (next_members P (bit_or x y) a t).1 (r.0, r.1, has_left x y r.2, r.3))
        (λ g. let r = (next_members P y a t).0 g in (next_members P (bit_or x y) a t).1 (r.0, r.1, has_right x y r.2, r.3))
        (has_union _ _ t h)

-- the empty set goes to the empty set
pub next_empty : (P : Pattern) (a : ℕ) → next P 0 a ≡ 0
next_empty P a =
    members_ext _ _ (λ t h. let r = (next_members P 0 a t).0 h in absurd (empty_has_none r.0 r.2)) (λ t h. absurd (empty_has_none t h))

-- a step leads to a set of states
pub next_good : {P : Pattern} → Valid P → (set a : ℕ) → a < P.letters → Good P.states (next P set a)
next_good {P} v set a l =
    (good_bits P.states (next P set a)).1 (λ t b h.
    let r = (next_members P set a t).0 h in
    let place : r.0 * P.letters + a < length P.rows = rw v.tabled (row_below P.states P.letters r.0 a r.1 l) in
    (good_bits P.states (row P r.0 a)).0 (v.rows_good _ place) t b r.3)
