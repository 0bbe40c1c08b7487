-- `numbers::size` counts v's bytes: `Counting` follows the loop.
use Rattle.numbers.proofs.WriterLoops.{counting_first, counting_step, counting_done}
use Rattle.numbers.proofs.size.Goals as goal

pub loop-rest-init : goal.loop-rest-init
loop-rest-init c = counting_first c.args.v c.ranges.v.fits

pub loop-rest-preserved : goal.loop-rest-preserved
loop-rest-preserved c = counting_step c.loop-rest.invariant c.loop-rest-test.true

pub returns : goal.returns
returns c = counting_done c.loop-rest.invariant c.loop-rest-test.false
