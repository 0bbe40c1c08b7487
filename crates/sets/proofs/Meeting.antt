-- Two sets meet where a state is in both; a union meets what one of its parts meets. Assumes nothing.
use mathlib.Core.Path.{◌≡◌, ap, ◌∙◌}
use mathlib.Core.Logic.{◌↔◌}
use mathlib.Core.Bool.{true, not, ◌||◌}
use Prim.Native.Nat.{ℕ}
use native.Mathlib.Decide.{ℕ_discrete}
use native.Mathlib.Omega.{arith}
use lib.Bits.{bit_or, bit_and}
use lib.Dec.{eqb}
use borrow.Author.Tests.{ne_eqb, eqb-false, not-true}
use Rattle.sets.specs.Sets.{bit, Has, meets}
use Rattle.sets.proofs.Bits.{bit_of_or, bit_of_and, bits_ext, union_comm, union_empty, some_state, empty_has_none}
use Rattle.sets.proofs.Inclusion.{within_le, within_left}

pub meets_members : (a b : ℕ) → (meets a b ≡ true) ↔ ((s : ℕ) × Has a s × Has b s)
unfolding meets
meets_members a b = (to, fro)
  where
    to : not (eqb (bit_and a b) 0) ≡ true → (s : ℕ) × Has a s × Has b s
    to e =
        let (s, h) = some_state (bit_and a b) (eqb-false (bit_and a b) 0 (not-true _ e)) in
        (s, record { is_one = omega (arith, bit_of_and a b s, h.is_one) }, record { is_one = omega (arith, bit_of_and a b s, h.is_one) })

    fro : ((s : ℕ) × Has a s × Has b s) → not (eqb (bit_and a b) 0) ≡ true
    fro (s, p, q) =
        rw (ne_eqb (bit_and a b) 0 (λ z. empty_has_none s (record { is_one = omega (arith, bit_of_and a b s, ap (λ (x : ℕ). bit x s) z, p.is_one, q.is_one) })))

and_or : (a b c : ℕ) → bit_and (bit_or a b) c ≡ bit_or (bit_and a c) (bit_and b c)
and_or a b c = bits_ext _ _ (λ s. simp (bit_of_and, bit_of_or) (omega arith))

pub meets_union : (a b c : ℕ) → meets (bit_or a b) c ≡ (meets a c || meets b c)
unfolding meets
meets_union a b c = ap (λ (x : ℕ). not (eqb x 0)) (and_or a b c) ∙ go (bit_and a c) (bit_and b c) (ℕ_discrete (bit_and a c) 0) (ℕ_discrete (bit_and b c) 0)
  where
    go : (u v : ℕ) → Dec (u ≡ 0) → Dec (v ≡ 0) → not (eqb (bit_or u v) 0) ≡ (not (eqb u 0) || not (eqb v 0))
    go u v (yes p) (yes q) = rw (p, q)
    go u v (yes p) (no q) = rw (p, union_comm 0 v, union_empty)
    go u v (no p) d = rw (ne_eqb (bit_or u v) 0 (λ e. p (omega (arith, within_le (within_left u v)))), ne_eqb u 0 p)
