-- Inclusion is a partial order with union as its join. It is inclusion of states, and the code's test a & c == a. Assumes nothing.
use mathlib.Core.Path.{◌≡◌, sym, ap, ◌∙◌}
use mathlib.Core.Logic.{◌↔◌}
use Prim.Native.Nat.{ℕ, ◌≤◌, max}
use native.Mathlib.Decide.{dec_le}
use native.Mathlib.Omega.{arith}
use lib.Bits.{bit_or, bit_and, or_add_and, and_le_r}
use Rattle.sets.specs.Sets.{bit, Has, Within}
use Rattle.sets.proofs.Bits.{bit_of_or, bits_ext, union_assoc, union_comm, union_self}

pub within_refl : (a : ℕ) → Within a a
within_refl a = record { joins = union_self a }

pub within_trans : {a b c : ℕ} → Within a b → Within b c → Within a c
within_trans {a} {b} {c} p q = record { joins = ap (bit_or a) (sym q.joins) ∙ sym (union_assoc a b c) ∙ ap (λ (x : ℕ). bit_or x c) p.joins ∙ q.joins }

pub within_antisym : {a b : ℕ} → Within a b → Within b a → a ≡ b
within_antisym {a} {b} p q = sym q.joins ∙ union_comm b a ∙ p.joins

-- ---- the code's test

pub within_test : (a c : ℕ) → (bit_and a c ≡ a) ↔ Within a c
within_test a c = (λ e. omega (arith, or_add_and a c), λ w. omega (arith, or_add_and a c))

-- ---- union is the join

pub within_left : (a b : ℕ) → Within a (bit_or a b)
within_left a b = record { joins = sym (union_assoc a a b) ∙ ap (λ (x : ℕ). bit_or x b) (union_self a) }

pub within_right : (a b : ℕ) → Within b (bit_or a b)
within_right a b = rw (union_comm a b) (within_left b a)

pub within_union : {a b c : ℕ} → Within a c → Within b c → Within (bit_or a b) c
within_union {a} {b} {c} p q = record { joins = union_assoc a b c ∙ ap (bit_or a) q.joins ∙ p.joins }

-- what lies within is no larger as a number
pub within_le : {a c : ℕ} → Within a c → a ≤ c
within_le {a} {c} w = omega (arith, or_add_and a c, and_le_r a c)

-- ---- inclusion of states

within_has : {a c : ℕ} → Within a c → (s : ℕ) → Has a s → Has c s
within_has {a} {c} w s h = omega (arith, bit_of_or a c s, ap (λ (x : ℕ). bit x s) w.joins)

has_within : (a c : ℕ) → ((s : ℕ) → Has a s → Has c s) → Within a c
has_within a c f = record { joins = bits_ext _ _ (λ s. bit_of_or a c s ∙ go s (dec_le 1 (bit a s))) }
  where
    go : (s : ℕ) → Dec (1 ≤ bit a s) → max (bit a s) (bit c s) ≡ bit c s
    go s (yes p) = omega (arith, f s (omega arith))
    go s (no p) = omega arith

pub within_members : (a c : ℕ) → Within a c ↔ ((s : ℕ) → Has a s → Has c s)
within_members a c = (within_has, has_within a c)

pub has_left : (a b : ℕ) {s : ℕ} → Has a s → Has (bit_or a b) s
has_left a b {s} h = within_has (within_left a b) s h

pub has_right : (a b : ℕ) {s : ℕ} → Has b s → Has (bit_or a b) s
has_right a b {s} h = within_has (within_right a b) s h

-- two sets with the same states are equal
pub members_ext : (a b : ℕ) → ((s : ℕ) → Has a s → Has b s) → ((s : ℕ) → Has b s → Has a s) → a ≡ b
members_ext a b f g = within_antisym (has_within a b f) (has_within b a g)
