-- A mask is its bits, and union is taken bit by bit. Assumes nothing.
use mathlib.Core.Path.{◌≡◌, sym, ap, ◌∙◌}
use mathlib.Core.Logic.{◌⊎◌, inl, inr}
use Prim.Native.Nat.{ℕ, zero, suc, ◌+◌, ◌/◌, ◌%◌, ◌^◌, ◌≤◌, max, min}
use native.Mathlib.Nat.{zero-div}
use native.Mathlib.Decide.{dec_le}
use native.Mathlib.Omega.{arith}
use lib.Arith.{digits_mod}
use lib.Pow.{shr-shr}
use lib.Bits.{bit_or, bit_and, or_step, or_shr, and_step, and_shr, or_comm, or_self, or_zero_r}
use Rattle.sets.specs.Sets.{bit, Has}

-- ---- the bits of a union and of what two masks share

or_odd : (a b : ℕ) → bit_or a b % 2 ≡ max (a % 2) (b % 2)
or_odd a b = rw or_step (digits_mod (bit_or (a / 2) (b / 2)) (omega arith))

and_odd : (a b : ℕ) → bit_and a b % 2 ≡ min (a % 2) (b % 2)
and_odd a b = rw and_step (digits_mod (bit_and (a / 2) (b / 2)) (omega arith))

pub bit_of_or : (a b s : ℕ) → bit (bit_or a b) s ≡ max (bit a s) (bit b s)
bit_of_or a b s = rw or_shr (or_odd (a / 2 ^ s) (b / 2 ^ s))

pub bit_of_and : (a b s : ℕ) → bit (bit_and a b) s ≡ min (bit a s) (bit b s)
bit_of_and a b s = rw and_shr (and_odd (a / 2 ^ s) (b / 2 ^ s))

-- ---- two masks with the same bits are equal

bit_half : (a s : ℕ) → bit (a / 2) s ≡ bit a (1 + s)
bit_half a s = ap (λ (x : ℕ). x % 2) (shr-shr a 1 s)

ext_below : (k a b : ℕ) → a + b ≤ k → ((s : ℕ) → bit a s ≡ bit b s) → a ≡ b
ext_below zero a b l h = omega arith
ext_below (suc k) a b l h =
    let low : bit a 0 ≡ bit b 0 = h 0 in
    let high : a / 2 ≡ b / 2 = ext_below k (a / 2) (b / 2) (omega arith) (λ s. bit_half a s ∙ h (1 + s) ∙ sym (bit_half b s)) in
    omega arith

pub bits_ext : (a b : ℕ) → ((s : ℕ) → bit a s ≡ bit b s) → a ≡ b
bits_ext a b h = ext_below (a + b) a b (omega arith) h

-- ---- union: associative, commutative, idempotent, with the empty set neutral

pub union_assoc : (a b c : ℕ) → bit_or (bit_or a b) c ≡ bit_or a (bit_or b c)
union_assoc a b c = bits_ext _ _ (λ s. simp bit_of_or (omega arith))

pub union_comm : (a b : ℕ) → bit_or a b ≡ bit_or b a
union_comm a b = or_comm a b

pub union_self : (a : ℕ) → bit_or a a ≡ a
union_self a = or_self a

pub union_empty : (a : ℕ) → bit_or a 0 ≡ a
union_empty a = or_zero_r a

-- ---- the states of a mask

pub has_union : (a b s : ℕ) → Has (bit_or a b) s → Has a s ⊎ Has b s
has_union a b s h = go (dec_le 1 (bit a s))
  where
    go : Dec (1 ≤ bit a s) → Has a s ⊎ Has b s
    go (yes p) = inl (omega arith)
    go (no p) = inr (omega (arith, bit_of_or a b s))

pub empty_has_none : (s : ℕ) → Has 0 s → ⊥
empty_has_none s h = omega (arith, ap (λ (x : ℕ). x % 2) (zero-div (2 ^ s)))

some_below : (k n : ℕ) → n ≤ k → (n ≡ 0 → ⊥) → (s : ℕ) × Has n s
some_below zero n l f = absurd (f (omega arith))
some_below (suc k) n l f = pick (dec_le 1 (n % 2)) (λ g. some_below k (n / 2) (omega arith) g)
  where
    pick : Dec (1 ≤ n % 2) → ((n / 2 ≡ 0 → ⊥) → (s : ℕ) × Has (n / 2) s) → (s : ℕ) × Has n s
    pick (yes p) ih = (0, omega arith)
    pick (no p) ih =
        let (s, h) = ih (λ e. f (omega arith)) in
        (1 + s, record { is_one = sym (bit_half n s) ∙ h.is_one })

-- a set that is not empty has a state
pub some_state : (n : ℕ) → (n ≡ 0 → ⊥) → (s : ℕ) × Has n s
some_state n f = some_below n n (omega arith) f
