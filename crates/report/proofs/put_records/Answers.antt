-- `report::put_records` puts a line for each record, in each turn the next of those that are left.
use Rattle.std.proofs.Common.{◌≡◌}
use Rattle.std.proofs.lemmas.Slice.Zip.{either_empty_from_Zip}
use Rattle.std.specs.Iterator.Adapters.{zip_first, zip_second}
use Rattle.std.specs.Slice.Iter.{iter_rest}
use Rattle.lent.proofs.Filling.{to_put_first, to_put_fits, to_put_step, to_put_done}
use Rattle.report.proofs.Lines.{pairs_none, pairs_step}
use Rattle.report.proofs.put_records.Goals as goal

pub loop-left-init : goal.loop-left-init
loop-left-init c =
    let first : iter_rest (zip_first c.into_iter-left-iterator.result) ≡ c.args.lefts.now = cc in
    let second : iter_rest (zip_second c.into_iter-left-iterator.result) ≡ c.args.rights.now = cc in
    rw (first, second) (to_put_first _ _ c.requires)

pub put_line-requires : goal.put_line-requires
put_line-requires c = to_put_fits c.loop-left.invariant (pairs_step c.in-Some.ensures.steps.0 c.in-Some.ensures.steps.1)

pub loop-left-preserved : goal.loop-left-preserved
loop-left-preserved c = to_put_step c.loop-left.invariant (pairs_step c.in-Some.ensures.steps.0 c.in-Some.ensures.steps.1) c.put_line.ensures

pub returns : goal.returns
returns c = to_put_done c.loop-left.invariant (pairs_none _ _ (either_empty_from_Zip c.loop-left.left-iterator c.next.new.self _ c.in-None.is c.next.ensures.steps))
