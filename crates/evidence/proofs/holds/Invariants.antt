-- What the loop keeps: the letters tried take the pair to congruent sets.
use Rattle.std.proofs.Common.{ℕ, ◌<◌}
use Rattle.pattern.specs.Lent.{pattern_in}
use Rattle.pattern.specs.Language.{next}
use Rattle.congruence.specs.Congruence.{Congruent}
use Rattle.congruence.specs.Lent.{listed_in}
use Rattle.evidence.proofs.holds.Given as goal

abbrev pub invariant-loop-letter : goal.invariant-loop-letter
invariant-loop-letter l = (letter : ℕ) → letter < l.letter → Congruent (listed_in l.pairs) (next (pattern_in l.pattern.pattern) l.a letter) (next (pattern_in l.pattern.pattern) l.b letter)
