-- `comparison::compare_test` makes its five tests in order.
use Rattle.std.proofs.Common.{rules}
use Rattle.verdict.proofs.Refusals.{stops, goes_on, ends}
use Rattle.comparison.specs.Answers.{room_test, compare_test}
use Rattle.comparison.proofs.compare_test.Goals as goal

pub returns-in_err-shape_test : goal.returns-in_err-shape_test
unfolding compare_test
returns-in_err-shape_test c = stops _ (search rules) c.in_err-shape_test.ensures

pub returns-in_err-room_test : goal.returns-in_err-room_test
unfolding compare_test room_test
returns-in_err-room_test c = goes_on _ c.in_ok-shape_test.ensures (stops _ (search rules) c.in_err-room_test.ensures)

pub returns-in_err-masks_test : goal.returns-in_err-masks_test
unfolding compare_test room_test
returns-in_err-masks_test c = goes_on _ c.in_ok-shape_test.ensures (goes_on _ c.in_ok-room_test.ensures (stops _ (search rules) c.in_err-masks_test.ensures))

pub returns-in_err-set_test : goal.returns-in_err-set_test
unfolding compare_test room_test
returns-in_err-set_test c =
    goes_on _ c.in_ok-shape_test.ensures (goes_on _ c.in_ok-room_test.ensures (goes_on _ c.in_ok-masks_test.ensures (stops _ (search rules) c.in_err-set_test.ensures)))

pub returns : goal.returns
unfolding compare_test room_test
returns c =
    goes_on _ c.in_ok-shape_test.ensures
    (goes_on _ c.in_ok-room_test.ensures (goes_on _ c.in_ok-masks_test.ensures (goes_on _ c.in_ok-set_test.ensures (ends c.set_test-2.ensures))))
