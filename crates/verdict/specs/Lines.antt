-- The lines of the table of refusals that a call has, in the order in which they are looked at.
--   line w A rest       the line of number w applies where A does not hold; the lines of `rest` are looked at after it
--   NoneApplies lines   no line applies
--   Applies lines w     w is the number of the first line that applies (`one_applies`, `applies_exactly`)
--   GoesBy lines v      the verdict refuses exactly where a line applies, and by the number of the first
use Rattle.std.specs.Prelude.{◌≡◌, ◌↔◌, ◌⊎◌, ℕ}
use Rattle.verdict.specs.Verdict.{Verdict}
use Rattle.verdict.specs.Verdict.Verdict.{Fine, Against}

pub data Lines : Type 1 where
  none : Lines
  line : ℕ → Type 0 → Lines → Lines

abbrev pub NoneApplies : Lines → Type 0
NoneApplies none = Unit {0}
NoneApplies (line w A rest) = A × NoneApplies rest

abbrev pub Applies : Lines → ℕ → Type 0
Applies none w = ⊥
Applies (line u A rest) w = ((A → ⊥) × (w ≡ u)) ⊎ (A × Applies rest w)

pub record GoesBy (lines : Lines) (v : Verdict) : Type 0 where
  pub fine : (v ≡ Fine) ↔ NoneApplies lines
  pub against : (w : ℕ) → (v ≡ Against w) ↔ Applies lines w
