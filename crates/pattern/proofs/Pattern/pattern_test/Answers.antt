-- `pattern::Pattern::pattern_test` makes its two tests in order.
use Rattle.std.proofs.Common.{rules}
use Rattle.verdict.proofs.Refusals.{stops, goes_on, ends}
use Rattle.pattern.specs.Tests.{pattern_test}
use Rattle.pattern.proofs.Pattern.pattern_test.Goals as goal

pub returns-in_err-shape_test : goal.returns-in_err-shape_test
unfolding pattern_test
returns-in_err-shape_test c = stops _ (search rules) c.in_err-shape_test.ensures

pub returns : goal.returns
unfolding pattern_test
returns c = goes_on _ c.in_ok-shape_test.ensures (ends c.masks_test.ensures)
