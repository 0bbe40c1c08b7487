-- `numbers::size` counts v's bytes: `Counting` follows the loop. The measure is what is left of the value.
use Rattle.numbers.proofs.WriterLoops.{Counting}
use Rattle.numbers.proofs.size.Given as goal

abbrev pub invariant-loop-rest : goal.invariant-loop-rest
invariant-loop-rest l = Counting l.v l.rest l.n

abbrev pub decreases-loop-rest : goal.decreases-loop-rest
decreases-loop-rest l = l.rest
