-- `evidencefile::put_pairs` puts the bytes of the pairs: in each turn those of the pairs that are still to come are left.
use Rattle.std.proofs.Common.{◌≡◌, length}
use Rattle.std.specs.Iterator.Adapters.{zip_first, zip_second}
use Rattle.std.specs.Slice.Iter.{iter_rest}
use Rattle.lent.proofs.Filling.{ToPut}
use Rattle.numbers.specs.Format.{encode_all}
use Rattle.evidencefile.specs.EvidenceFile.{alternating}
use Rattle.evidencefile.proofs.put_pairs.Given as goal

abbrev pub invariant-loop-left : goal.invariant-loop-left
invariant-loop-left l = record {
  paired : length (iter_rest (zip_first l.left-iterator)) ≡ length (iter_rest (zip_second l.left-iterator));
  left : ToPut l.fn.page (encode_all (alternating l.fn.pairs.lefts.now l.fn.pairs.rights.now)) l.page (encode_all (alternating (iter_rest (zip_first l.left-iterator)) (iter_rest (zip_second l.left-iterator))));
}
