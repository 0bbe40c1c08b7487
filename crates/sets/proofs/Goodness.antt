-- A mask is below 2 ^ n exactly when it has no bit n or above; union stays below; the set of all n states. Assumes nothing.
use mathlib.Core.Path.{◌≡◌, sym, ap, ◌∙◌}
use mathlib.Core.Logic.{◌↔◌}
use Prim.Native.Nat.{ℕ, ◌+◌, ◌-◌, ◌/◌, ◌%◌, ◌^◌, ◌≤◌, ◌<◌}
use native.Mathlib.Nat.{one-mul, lt_of_lt_of_le, div-eq_of_lt, div-lt_iff_lt-mul, mod-eq_of_lt}
use native.Mathlib.Decide.{ℕ_discrete}
use native.Mathlib.Omega.{arith}
use lib.Bits.{bit_or, or_lt, and_mask}
use lib.Pow.{pow_mono, pow_pos, shr-shr}
use Rattle.sets.specs.Sets.{Has, Within, Good}
use Rattle.sets.proofs.Bits.{some_state}
use Rattle.sets.proofs.Inclusion.{within_test}

good_none : {n a : ℕ} → Good n a → (s : ℕ) → n ≤ s → Has a s → ⊥
good_none {n} {a} g s l h = omega (arith, ap (λ (x : ℕ). x % 2) (div-eq_of_lt (lt_of_lt_of_le g.below (pow_mono l))), h.is_one)

-- the code's test: nothing is left above bit n
pub good_shift : (n a : ℕ) → (a / 2 ^ n ≡ 0) ↔ Good n a
good_shift n a = (
  λ z. let h : a / 2 ^ n < 1 = omega arith in record { below = rw one-mul at ((div-lt_iff_lt-mul (pow_pos n)).0 h) },
  λ g. div-eq_of_lt g.below,
)

none_good : (n a : ℕ) → ((s : ℕ) → n ≤ s → Has a s → ⊥) → Good n a
none_good n a f = pick (ℕ_discrete (a / 2 ^ n) 0)
  where
    pick : Dec (a / 2 ^ n ≡ 0) → Good n a
    pick (yes z) = (good_shift n a).0 z
    pick (no p) =
        let (s, h) = some_state (a / 2 ^ n) p in
        absurd (f (n + s) (omega arith) (record { is_one = ap (λ (x : ℕ). x % 2) (sym (shr-shr a n s)) ∙ h.is_one }))

pub good_bits : (n a : ℕ) → Good n a ↔ ((s : ℕ) → n ≤ s → Has a s → ⊥)
good_bits n a = (good_none, none_good n a)

pub good_union : {n a b : ℕ} → Good n a → Good n b → Good n (bit_or a b)
good_union {n} {a} {b} p q = record { below = or_lt n a b p.below q.below }

pub good_empty : (n : ℕ) → Good n 0
good_empty n = record { below = pow_pos n }

-- the set of all n states has every set of them within it
pub good_within_all : {n a : ℕ} → Good n a → Within a (2 ^ n - 1)
good_within_all {n} {a} g = (within_test a (2 ^ n - 1)).0 (and_mask a n ∙ mod-eq_of_lt g.below)
