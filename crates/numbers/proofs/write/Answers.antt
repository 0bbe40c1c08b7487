-- `numbers::write` puts v's bytes: `Writing` says what is still to be put.
use mathlib.Core.Path.{refl}
use Rattle.numbers.proofs.WriterLoops.{writing_first, writing_room, writing_room_last, writing_step, writing_done}
use Rattle.numbers.proofs.write.Goals as goal

pub loop-rest-init : goal.loop-rest-init
loop-rest-init c = writing_first c.args.page.now c.args.v c.ranges.v.fits c.requires

pub put_byte-requires : goal.put_byte-requires
put_byte-requires c = writing_room c.loop-rest.invariant c.loop-rest-test.true refl

pub loop-rest-preserved : goal.loop-rest-preserved
loop-rest-preserved c = writing_step c.loop-rest.invariant c.loop-rest-test.true refl c.put_byte.ensures

pub put_byte-requires-2 : goal.put_byte-requires-2
put_byte-requires-2 c = writing_room_last c.loop-rest.invariant c.loop-rest-test.false refl

pub returns : goal.returns
returns c = writing_done c.loop-rest.invariant c.loop-rest-test.false refl c.put_byte-2.ensures
