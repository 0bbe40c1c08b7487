-- What a test says, and tests made in order. Refusals are by the numbers of the scope (§7).
use Rattle.std.specs.Prelude.{◌≡◌, Bool, true, false, ℕ, Result, Ok, Err}
use mathlib.Core.List.{List, [], ◌∷◌, map, Memᴰ}
use Rattle.verdict.specs.Verdict.{Verdict}
use Rattle.verdict.specs.Verdict.Verdict.{Fine, Against}

-- a test that holds has nothing against it; one that fails is refused by its number
unfoldable pub need : Bool → ℕ → Verdict
need true w = Fine
need false w = Against w

-- the same, of a refusal by whatever names it
unfoldable pub held : {E : Type 0} → Bool → E → Result (Unit {0}) E
held true why = Ok tt
held false why = Err why

-- several tests in their order: the first that fails decides
unfoldable pub in_order : List Verdict → Verdict
in_order [] = Fine
in_order (Fine ∷ tests) = in_order tests
in_order (Against w ∷ tests) = Against w

-- one test of each value, in the order of the list
unfoldable pub each : (ℕ → Verdict) → List ℕ → Verdict
each test values = in_order (map test values)

-- the verdict refuses only by these numbers
pub record Among (numbers : List ℕ) (v : Verdict) : Type 0 where
  pub among : (w : ℕ) → v ≡ Against w → Memᴰ w numbers

-- the flag says whether A holds
pub record Decides (A : Type 0) (flag : Bool) : Type 0 where
  pub sound : flag ≡ true → A
  pub complete : flag ≡ false → A → ⊥
