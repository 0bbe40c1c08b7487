-- `numbers::write_all` puts the bytes of a list: in each turn those of the numbers from the index on are left.
use lib.ListN.{drop}
use Rattle.lent.proofs.Filling.{ToPut}
use Rattle.numbers.specs.Format.{encode_all}
use Rattle.numbers.proofs.write_all.Given as goal

abbrev pub invariant-loop-v : goal.invariant-loop-v
invariant-loop-v l = ToPut l.fn.page (encode_all l.list) l.page (encode_all (drop l.v-index l.list))
