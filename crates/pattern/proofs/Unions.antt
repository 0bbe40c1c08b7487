-- X+Y is a set of the pattern's states where both X and Y are, so that X+Y and Y are refused exactly as X and Y are. Assumes nothing.
use mathlib.Core.Path.{◌≡◌, refl}
use mathlib.Core.Logic.{◌↔◌}
use mathlib.Core.Bool.{Bool, true, false, ◌&&◌}
use mathlib.Core.List.{[], ◌∷◌}
use Prim.Native.Nat.{ℕ, ◌^◌, ◌≤◌, ◌<◌}
use native.Mathlib.Decide.{dec_lt}
use native.Mathlib.Omega.{arith}
use lib.Dec.{ltb}
use lib.Bits.{bit_or, or_lt}
use borrow.Author.Tests.{lt-ltb, le-ltb}
use Rattle.verdict.specs.Tests.{need, in_order}
use Rattle.sets.specs.Sets.{Good}
use Rattle.sets.proofs.Inclusion.{within_left, within_right, within_le}
use Rattle.sets.proofs.Goodness.{good_union}
use Rattle.pattern.specs.Tests.{set_test}

pub good_both : {n x y : ℕ} → Good n (bit_or x y) ↔ (Good n x × Good n y)
good_both {n} {x} {y} = (
  λ g. (
    record { below = omega (arith, g.below, within_le (within_left x y)) },
    record { below = omega (arith, g.below, within_le (within_right x y)) },
  ),
  λ (a, b). good_union a b,
)

pub union_tested : (n x y : ℕ) → in_order (set_test n (bit_or x y) ∷ set_test n y ∷ []) ≡ in_order (set_test n x ∷ set_test n y ∷ [])
unfolding set_test in_order need
union_tested n x y = rw below (flags (ltb x (2 ^ n)) (ltb y (2 ^ n)))
  where
    below : ltb (bit_or x y) (2 ^ n) ≡ (ltb x (2 ^ n) && ltb y (2 ^ n))
    below = pick (dec_lt x (2 ^ n)) (dec_lt y (2 ^ n))
      where
        pick : Dec (x < 2 ^ n) → Dec (y < 2 ^ n) → ltb (bit_or x y) (2 ^ n) ≡ (ltb x (2 ^ n) && ltb y (2 ^ n))
        pick (yes a) (yes b) = rw (lt-ltb _ _ a, lt-ltb _ _ b) (lt-ltb _ _ (or_lt n x y a b))
        pick (yes a) (no b) =
            let above : 2 ^ n ≤ y = omega arith in
            rw (lt-ltb _ _ a, le-ltb _ _ above) (le-ltb _ _ (omega (arith, within_le (within_right x y))))
        pick (no a) b =
            let above : 2 ^ n ≤ x = omega arith in
            rw (le-ltb _ _ above) (le-ltb _ _ (omega (arith, within_le (within_left x y))))

    flags : (a b : Bool) → in_order (need (a && b) 12 ∷ need b 12 ∷ []) ≡ in_order (need a 12 ∷ need b 12 ∷ [])
    flags true true = refl
    flags true false = refl
    flags false true = refl
    flags false false = refl
