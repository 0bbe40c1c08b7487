-- `evidence::Offer::check_test` makes its four tests in order.
use Rattle.std.proofs.Common.{rules}
use Rattle.verdict.proofs.Refusals.{stops, goes_on, ends}
use Rattle.evidence.specs.Evidence.{check_test}
use Rattle.evidence.proofs.Offer.check_test.Goals as goal

pub returns-in_err-shape_test : goal.returns-in_err-shape_test
unfolding check_test
returns-in_err-shape_test c = stops _ (search rules) c.in_err-shape_test.ensures

pub returns-in_err-list_test : goal.returns-in_err-list_test
unfolding check_test
returns-in_err-list_test c = goes_on _ c.in_ok-shape_test.ensures (stops _ (search rules) c.in_err-list_test.ensures)

pub returns-in_err-masks_test : goal.returns-in_err-masks_test
unfolding check_test
returns-in_err-masks_test c = goes_on _ c.in_ok-shape_test.ensures (goes_on _ c.in_ok-list_test.ensures (stops _ (search rules) c.in_err-masks_test.ensures))

pub returns : goal.returns
unfolding check_test
returns c = goes_on _ c.in_ok-shape_test.ensures (goes_on _ c.in_ok-list_test.ensures (goes_on _ c.in_ok-masks_test.ensures (ends c.pairs_test.ensures)))
