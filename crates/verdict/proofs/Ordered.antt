-- The laws of tests made in order. Assumes nothing.
use mathlib.Core.Path.{◌≡◌, refl, sym}
use mathlib.Core.Logic.{◌↔◌}
use mathlib.Core.Bool.{Bool, true, false}
use mathlib.Core.List.{List, [], ◌∷◌}
use Prim.Native.Nat.{ℕ}
use native.Mathlib.Omega.{arith}
use Rattle.verdict.specs.Verdict.{Verdict}
use Rattle.verdict.specs.Verdict.Verdict.{Fine, Against}
use Rattle.verdict.specs.Tests.{need, in_order}

-- ---- one verdict

-- nothing is against what a test holds of: a verdict is not both
pub apart : {A : Type 0} {v : Verdict} {w : ℕ} → v ≡ Fine → v ≡ Against w → A
apart p q = absurd (let z : ◌≡◌ {A = ℕ} 0 1 = cc in omega arith)

-- one verdict refuses by one number
pub one_number : {v : Verdict} {w u : ℕ} → v ≡ Against w → v ≡ Against u → w ≡ u
one_number p q = cc

-- ---- one test

pub need_holds : (b : Bool) (w : ℕ) → b ≡ true → need b w ≡ Fine
unfolding need
need_holds b w e = rw e

pub need_fails : (b : Bool) (w : ℕ) → b ≡ false → need b w ≡ Against w
unfolding need
need_fails b w e = rw e

pub need_fine : (b : Bool) (w : ℕ) → need b w ≡ Fine → b ≡ true
unfolding need
need_fine true w e = refl
need_fine false w e = apart refl (sym e)

-- what a test refuses failed, and by its own number
pub need_against : (b : Bool) (w : ℕ) {u : ℕ} → need b w ≡ Against u → (b ≡ false) × (u ≡ w)
unfolding need
need_against true w e = apart refl e
need_against false w e = (refl, one_number e refl)

-- ---- several in order

-- nothing is against any of the tests
abbrev pub AllFine : List Verdict → Type 0
AllFine [] = Unit {0}
AllFine (v ∷ tests) = (v ≡ Fine) × AllFine tests

-- nothing is against all of them exactly where nothing is against each
pub order_fine : (tests : List Verdict) → (in_order tests ≡ Fine) ↔ AllFine tests
unfolding in_order
order_fine [] = (λ e. tt, λ u. refl)
order_fine (Fine ∷ tests) = (λ e. (refl, (order_fine tests).0 e), λ (p, q). (order_fine tests).1 q)
order_fine (Against w ∷ tests) = (λ e. let z : ◌≡◌ {A = ℕ} 0 1 = cc in absurd (omega arith), λ (p, q). p)

-- nothing is against two parts exactly where nothing is against either
pub order_both : (v : Verdict) (tests : List Verdict) → (in_order (v ∷ tests) ≡ Fine) ↔ ((v ≡ Fine) × (in_order tests ≡ Fine))
unfolding in_order
order_both v tests = (λ e. let (p, q) = (order_fine (v ∷ tests)).0 e in (p, (order_fine tests).1 q), λ (p, q). (order_fine (v ∷ tests)).1 (p, (order_fine tests).0 q))

-- a test that fails decides
pub order_stop : (v : Verdict) (tests : List Verdict) {w : ℕ} → v ≡ Against w → in_order (v ∷ tests) ≡ v
unfolding in_order
order_stop v tests e = rw e refl

-- a test that holds leaves the decision to the later ones
pub order_next : (v : Verdict) (tests : List Verdict) → v ≡ Fine → in_order (v ∷ tests) ≡ in_order tests
unfolding in_order
order_next v tests e = rw e refl

-- the last test decides by itself
pub order_last : (v : Verdict) → in_order (v ∷ []) ≡ v
unfolding in_order
order_last Fine = refl
order_last (Against w) = refl
