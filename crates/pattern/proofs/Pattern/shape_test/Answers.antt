-- `pattern::Pattern::shape_test` makes its tests in order; the product is formed only of numbers in range.
use Rattle.std.proofs.Common.{rules}
use mathlib.Core.Path.{sym}
use Rattle.verdict.proofs.Refusals.{stops, goes_on, ends}
use Rattle.pattern.specs.Tests.{shape_test}
use Rattle.pattern.proofs.Validity.{sized_fine}
use Rattle.pattern.proofs.Pattern.shape_test.Goals as goal

pub returns-in_err-size_test : goal.returns-in_err-size_test
unfolding shape_test
returns-in_err-size_test c = stops _ (search rules) c.in_err-size_test.ensures

pub returns-in_err-size_test-2 : goal.returns-in_err-size_test-2
unfolding shape_test
returns-in_err-size_test-2 c = goes_on _ c.in_ok-size_test.ensures (stops _ (search rules) c.in_err-size_test-2.ensures)

pub table_test-requires : goal.table_test-requires
table_test-requires c = sized_fine (sym c.in_ok-size_test.ensures) (sym c.in_ok-size_test-2.ensures)

pub returns : goal.returns
unfolding shape_test
returns c = goes_on _ c.in_ok-size_test.ensures (goes_on _ c.in_ok-size_test-2.ensures (ends c.table_test.ensures))
