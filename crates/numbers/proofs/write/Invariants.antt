-- `numbers::write` puts v's bytes: `Writing` says what is still to be put. The measure is what is left of the value.
use Rattle.numbers.proofs.WriterLoops.{Writing}
use Rattle.numbers.proofs.write.Given as goal

abbrev pub invariant-loop-rest : goal.invariant-loop-rest
invariant-loop-rest l = Writing l.fn.page l.v l.page l.rest

abbrev pub decreases-loop-rest : goal.decreases-loop-rest
decreases-loop-rest l = l.rest
