-- `pattern::table_test` is the definition of that name; the product of two numbers in range fits.
use Rattle.verdict.proofs.Refusals.{said_held}
use Rattle.pattern.specs.Tests.{table_test}
use Rattle.pattern.proofs.table_test.Goals as goal

pub returns : goal.returns
unfolding table_test
returns c = rw c.need.ensures (said_held _ _)
