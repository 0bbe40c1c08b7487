-- `pattern::reached`: the letters read so far lead from the set to where it stands.
use Rattle.pattern.specs.Lent.{pattern_in}
use Rattle.pattern.proofs.Following.{Following}
use Rattle.pattern.proofs.Shaped.reached.Given as goal

abbrev pub invariant-loop-letter : goal.invariant-loop-letter
invariant-loop-letter l = Following (pattern_in l.self.pattern) l.set l.sequence l.at l.letter-index
