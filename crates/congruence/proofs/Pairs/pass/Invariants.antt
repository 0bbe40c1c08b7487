-- What a pass keeps: the mask is the set after the pairs that are done.
use Rattle.congruence.proofs.Passes.{Walked}
use Rattle.congruence.proofs.Pairs.pass.Given as goal

abbrev pub invariant-loop-a : goal.invariant-loop-a
invariant-loop-a l = Walked l.self.lefts.now l.self.rights.now l.set l.a-iterator.a.rest.now l.a-iterator.b.rest.now l.mask
