-- What the loop keeps: the pairs tried hold.
use Rattle.pattern.specs.Lent.{pattern_in}
use Rattle.evidence.specs.Evidence.{HoldBelow}
use Rattle.evidence.proofs.by_pairs.Given as goal

abbrev pub invariant-loop-place : goal.invariant-loop-place
invariant-loop-place l = HoldBelow (pattern_in l.pattern.pattern) l.pairs.lefts.now l.pairs.rights.now l.place
