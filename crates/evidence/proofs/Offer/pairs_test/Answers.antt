-- `evidence::Offer::pairs_test` makes its four tests in order.
use Rattle.std.proofs.Common.{rules}
use Rattle.verdict.proofs.Refusals.{stops, goes_on, ends}
use Rattle.evidence.specs.Evidence.{pairs_test}
use Rattle.evidence.proofs.Offer.pairs_test.Goals as goal

pub returns-in_err-set_test : goal.returns-in_err-set_test
unfolding pairs_test
returns-in_err-set_test c = stops _ (search rules) c.in_err-set_test.ensures

pub returns-in_err-set_test-2 : goal.returns-in_err-set_test-2
unfolding pairs_test
returns-in_err-set_test-2 c = goes_on _ c.in_ok-set_test.ensures (stops _ (search rules) c.in_err-set_test-2.ensures)

pub returns-in_err-sets_test : goal.returns-in_err-sets_test
unfolding pairs_test
returns-in_err-sets_test c = goes_on _ c.in_ok-set_test.ensures (goes_on _ c.in_ok-set_test-2.ensures (stops _ (search rules) c.in_err-sets_test.ensures))

pub returns : goal.returns
unfolding pairs_test
returns c = goes_on _ c.in_ok-set_test.ensures (goes_on _ c.in_ok-set_test-2.ensures (goes_on _ c.in_ok-sets_test.ensures (ends c.sets_test-2.ensures)))
