-- `numbers::write_all` puts the bytes of a list: in each turn those of the numbers from the index on are left.
use Rattle.lent.proofs.Filling.{to_put_first, to_put_fits, to_put_step, to_put_done}
use Rattle.numbers.proofs.ListLoops.{all_step, all_none}
use Rattle.numbers.proofs.write_all.Goals as goal

pub loop-v-init : goal.loop-v-init
loop-v-init c = to_put_first _ _ c.requires

pub write-requires : goal.write-requires
write-requires c = to_put_fits c.loop-v.invariant (all_step c.args.list.now c.loop-v.v-index c.loop-v-test.true)

pub loop-v-preserved : goal.loop-v-preserved
loop-v-preserved c = to_put_step c.loop-v.invariant (all_step c.args.list.now c.loop-v.v-index c.loop-v-test.true) c.write.ensures

pub returns : goal.returns
returns c = to_put_done c.loop-v.invariant (all_none c.args.list.now c.loop-v.v-index c.loop-v-test.false)
