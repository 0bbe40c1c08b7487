-- `text::put_spaced`: in each turn the words from the index on are left.
use Rattle.std.proofs.Common.{map, drop}
use Rattle.lent.proofs.Filling.{ToPut}
use Rattle.text.specs.Text.{spaced}
use Rattle.text.proofs.put_spaced.Given as goal

abbrev pub invariant-loop-value : goal.invariant-loop-value
invariant-loop-value g l = ToPut l.fn.page (spaced (map g.W.Words.word_of l.fn.values)) l.page (spaced (map g.W.Words.word_of (drop l.value-index l.values)))
