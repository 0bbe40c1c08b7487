-- `pattern::Pattern::masks_test` makes its two tests in order.
use Rattle.std.proofs.Common.{rules}
use Rattle.verdict.proofs.Refusals.{stops, goes_on, ends}
use Rattle.pattern.specs.Tests.{masks_test}
use Rattle.pattern.proofs.Pattern.masks_test.Goals as goal

pub returns-in_err-set_test : goal.returns-in_err-set_test
unfolding masks_test
returns-in_err-set_test c = stops _ (search rules) c.in_err-set_test.ensures

pub returns : goal.returns
unfolding masks_test
returns c = goes_on _ c.in_ok-set_test.ensures (ends c.sets_test.ensures)
