-- `report::put_records`: in each turn the lines of the records that the iterators have yet to give are left.
use Rattle.std.specs.Iterator.Adapters.{zip_first, zip_second}
use Rattle.std.specs.Slice.Iter.{iter_rest}
use Rattle.lent.proofs.Filling.{ToPut}
use Rattle.report.specs.Inner.{pair_lines}
use Rattle.report.proofs.put_records.Given as goal

abbrev pub invariant-loop-left : goal.invariant-loop-left
invariant-loop-left l =
    ToPut l.fn.page (pair_lines l.fn.lefts l.fn.rights) l.page
    (pair_lines (iter_rest (zip_first l.left-iterator)) (iter_rest (zip_second l.left-iterator)))
