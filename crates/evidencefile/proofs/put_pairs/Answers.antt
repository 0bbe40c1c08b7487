-- `evidencefile::put_pairs` puts the bytes of the pairs: in each turn those of the pairs that are still to come are left.
use Rattle.std.proofs.Common.{◌≡◌, arith, ap, sym, ◌∙◌}
use Rattle.std.specs.Iterator.Adapters.{zip_first, zip_second}
use Rattle.std.specs.Slice.Iter.{iter_rest}
use Rattle.std.proofs.lemmas.Slice.Zip.{Zip-more}
use Rattle.std.proofs.lemmas.Iterator.{empty_from_Zip}
use lib.ListN.{length}
use Rattle.lent.proofs.Filling.{to_put_first, to_put_fits, to_put_step, to_put_done}
use Rattle.evidencefile.proofs.Sides.{pair_first, right_then, pairs_none}
use Rattle.evidencefile.proofs.put_pairs.Goals as goal
use Rattle.evidencefile.proofs.put_pairs.Goals.{In-Some}

pub loop-left-init : goal.loop-left-init
loop-left-init c =
    let first : iter_rest (zip_first c.into_iter-left-iterator.result) ≡ c.args.pairs.now.lefts.now = cc in
    let second : iter_rest (zip_second c.into_iter-left-iterator.result) ≡ c.args.pairs.now.rights.now = cc in
    record { paired = ap length first ∙ c.args.pairs.now.paired ∙ ap length (sym second); left = rw (first, second) (to_put_first _ _ c.requires) }

pub write-requires : goal.write-requires
write-requires c =
    let more = Zip-more c.loop-left.left-iterator c.next.new.self c.next.result (c.in-Some.left, c.in-Some.right) c.in-Some.is c.next.ensures.steps in
    to_put_fits c.loop-left.invariant.left (pair_first _ _ more.0 more.1)

pub write-requires-in-loop-left : goal.write-requires-in-loop-left
write-requires-in-loop-left c =
    let more = Zip-more c.loop-left.left-iterator c.next.new.self c.next.result (c.in-Some.left, c.in-Some.right) c.in-Some.is c.next.ensures.steps in
    to_put_fits (to_put_step c.loop-left.invariant.left (pair_first _ _ more.0 more.1) c.write.ensures) (right_then _ _)

pub loop-left-preserved : goal.loop-left-preserved
loop-left-preserved c =
    let more = Zip-more c.loop-left.left-iterator c.next.new.self c.next.result (c.in-Some.left, c.in-Some.right) c.in-Some.is c.next.ensures.steps in
    record {
      paired = omega (arith, ap length more.0, ap length more.1, c.loop-left.invariant.paired);
      left = to_put_step (to_put_step c.loop-left.invariant.left (pair_first _ _ more.0 more.1) c.write.ensures) (right_then _ _) c.write-in-loop-left.ensures;
    }

pub returns : goal.returns
returns c =
    let none = empty_from_Zip c.loop-left.left-iterator c.next.new.self c.next.result c.in-None.is c.next.ensures.steps c.loop-left.invariant.paired in
    to_put_done c.loop-left.invariant.left (pairs_none _ none.0)
