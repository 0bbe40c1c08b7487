-- A test of each value of a list: what a loop over the list keeps, and what it means that nothing is against the whole. Assumes nothing.
use mathlib.Core.Path.{◌≡◌, refl, ◌∙◌}
use mathlib.Core.Logic.{◌↔◌}
use mathlib.Core.List.{List, [], ◌∷◌, map}
use Prim.Native.Nat.{ℕ, zero, suc, ◌+◌, ◌≤◌, ◌<◌}
use native.Mathlib.Numerals.{add-one}
use native.Mathlib.Nat.{le_of_suc-le-suc, not-suc-le-zero}
use native.Mathlib.Omega.{arith}
use lib.ListN.{length, get_or, drop}
use lib.Seq.{drop-cons, drop-length}
use Rattle.verdict.specs.Verdict.{Verdict}
use Rattle.verdict.specs.Verdict.Verdict.{Fine, Against}
use Rattle.verdict.specs.Tests.{in_order, each}
use Rattle.verdict.proofs.Ordered.{order_fine}

-- the first i values have nothing against them: the rest decides
pub record Passed (test : ℕ → Verdict) (values : List ℕ) (i : ℕ) : Type 0 where
  pub bound : i ≤ length values
  pub rest : each test values ≡ each test (drop i values)

module _ {test : ℕ → Verdict} {values : List ℕ} where
  pub passed_none : Passed test values 0
  passed_none = record { bound = omega arith; rest = refl }

  pub passed_more : {i : ℕ} → i < length values → Passed test values i → test (get_or values i 0) ≡ Fine → Passed test values (i + 1)
  unfolding each in_order
  passed_more {i} l p e = record { bound = omega arith; rest = p.rest ∙ rw (drop-cons values i 0 l, e, add-one) refl }

  pub passed_stop : {i w : ℕ} → i < length values → Passed test values i → test (get_or values i 0) ≡ Against w → each test values ≡ Against w
  unfolding each in_order
  passed_stop {i} l p e = p.rest ∙ rw (drop-cons values i 0 l, e) refl

  pub passed_all : {i : ℕ} → length values ≤ i → Passed test values i → each test values ≡ Fine
  unfolding each in_order
  passed_all {i} l p =
      let whole : i ≡ length values = omega arith in
      p.rest ∙ rw (whole, drop-length values) refl

-- nothing is against the list exactly where nothing is against any of its values
pub each_fine : (test : ℕ → Verdict) (values : List ℕ) → (each test values ≡ Fine) ↔ ((i : ℕ) → i < length values → test (get_or values i 0) ≡ Fine)
unfolding each in_order
each_fine test values = (to values, fro values)
  where
    to : (xs : List ℕ) → each test xs ≡ Fine → (i : ℕ) → i < length xs → test (get_or xs i 0) ≡ Fine
    to [] e i l = absurd (not-suc-le-zero l)
    to (x ∷ xs) e zero l = ((order_fine (test x ∷ map test xs)).0 e).0
    to (x ∷ xs) e (suc i) l = to xs ((order_fine (map test xs)).1 ((order_fine (test x ∷ map test xs)).0 e).1) i (le_of_suc-le-suc l)

    fro : (xs : List ℕ) → ((i : ℕ) → i < length xs → test (get_or xs i 0) ≡ Fine) → each test xs ≡ Fine
    fro [] f = refl
    fro (x ∷ xs) f = rw (f 0 (omega arith)) (fro xs (λ i l. f (suc i) (omega arith)))
