-- Bisimulation up to congruence (the scope, §4.6; 000, section 3): what a pair of sets owes, and a relation whose pairs all pay it.
--   Progresses P R a b   a and b agree on the empty sequence, and each letter takes them to sets that are congruent by R
--   Progress P R         each pair of R progresses: congruent sets have one language then (`up_to_congruence`)
use Rattle.std.specs.Prelude.{◌≡◌, [], ℕ, ◌<◌}
use Rattle.pattern.specs.Pattern.{Pattern}
use Rattle.pattern.specs.Language.{next, accepts}
use Rattle.congruence.specs.Congruence.{Congruent}

pub record Progresses (P : Pattern) (R : ℕ → ℕ → Type 0) (a b : ℕ) : Type 0 where
  pub agrees : accepts P a [] ≡ accepts P b []
  pub steps : (letter : ℕ) → letter < P.letters → Congruent R (next P a letter) (next P b letter)

pub record Progress (P : Pattern) (R : ℕ → ℕ → Type 0) : Type 0 where
  pub each : (a b : ℕ) → R a b → Progresses P R a b
