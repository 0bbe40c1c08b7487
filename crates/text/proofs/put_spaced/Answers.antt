-- `text::put_spaced` puts a space and a word, in each turn the next of those that are left.
use Rattle.std.proofs.Common.{arith}
use Rattle.lent.proofs.Filling.{puts_room, puts_then, to_put_first, to_put_fits, to_put_step, to_put_done}
use Rattle.text.proofs.Lines.{spaced_none, spaced_step}
use Rattle.text.proofs.put_spaced.Goals as goal

pub loop-value-init : goal.loop-value-init
loop-value-init g c = to_put_first _ _ c.requires

pub put_byte-requires : goal.put_byte-requires
put_byte-requires g c =
    omega (
      arith,
      to_put_fits c.loop-value.invariant (spaced_step g.W.Words.word_of c.args.values.now c.loop-value.value-index c.loop-value-test.true c.value-item.is),
    )

pub put-requires : goal.put-requires
put-requires g c =
    puts_room c.put_byte.ensures _
    (to_put_fits c.loop-value.invariant (spaced_step g.W.Words.word_of c.args.values.now c.loop-value.value-index c.loop-value-test.true c.value-item.is))

pub loop-value-preserved : goal.loop-value-preserved
loop-value-preserved g c =
    to_put_step c.loop-value.invariant (spaced_step g.W.Words.word_of c.args.values.now c.loop-value.value-index c.loop-value-test.true c.value-item.is)
    (puts_then c.put_byte.ensures c.put.ensures)

pub returns : goal.returns
returns g c = to_put_done c.loop-value.invariant (spaced_none g.W.Words.word_of c.args.values.now c.loop-value.value-index c.loop-value-test.false)
