-- `numbers::read` finds what stands at the place: `Reached` follows the loop.
use Rattle.numbers.proofs.ReaderLoop.{Reached}
use Rattle.numbers.proofs.read.Given as goal

abbrev pub invariant-loop-place : goal.invariant-loop-place
invariant-loop-place l = Reached l.bytes l.at l.place l.value l.weight
