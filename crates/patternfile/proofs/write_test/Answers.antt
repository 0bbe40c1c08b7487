-- `patternfile::write_test` makes the writer's tests in their order.
use Rattle.std.proofs.Common.{rules}
use Rattle.verdict.proofs.Refusals.{stops, goes_on, ends, said_held}
use Rattle.pattern.specs.Tests.{space_test}
use Rattle.patternfile.specs.Writer.{write_test}
use Rattle.patternfile.proofs.write_test.Goals as goal

pub returns-in_err-pattern_test : goal.returns-in_err-pattern_test
unfolding write_test
returns-in_err-pattern_test c = stops _ (search rules) c.in_err-pattern_test.ensures

pub returns-in_err-set_test : goal.returns-in_err-set_test
unfolding write_test
returns-in_err-set_test c = goes_on _ c.in_ok-pattern_test.ensures (stops _ (search rules) c.in_err-set_test.ensures)

pub returns-in_err-set_test-2 : goal.returns-in_err-set_test-2
unfolding write_test
returns-in_err-set_test-2 c = goes_on _ c.in_ok-pattern_test.ensures (goes_on _ c.in_ok-set_test.ensures (stops _ (search rules) c.in_err-set_test-2.ensures))

pub returns : goal.returns
unfolding write_test space_test
returns c = goes_on _ c.in_ok-pattern_test.ensures (goes_on _ c.in_ok-set_test.ensures (goes_on _ c.in_ok-set_test-2.ensures (ends (rw (c.need.ensures, c.file_size.ensures) (said_held _ _)))))
