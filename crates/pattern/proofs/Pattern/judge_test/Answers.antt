-- `pattern::Pattern::judge_test` makes its three tests in order.
use Rattle.std.proofs.Common.{rules}
use Rattle.verdict.proofs.Refusals.{stops, goes_on, ends}
use Rattle.pattern.specs.Judge.{judge_test}
use Rattle.pattern.proofs.Pattern.judge_test.Goals as goal

pub returns-in_err-pattern_test : goal.returns-in_err-pattern_test
unfolding judge_test
returns-in_err-pattern_test c = stops _ (search rules) c.in_err-pattern_test.ensures

pub returns-in_err-set_test : goal.returns-in_err-set_test
unfolding judge_test
returns-in_err-set_test c = goes_on _ c.in_ok-pattern_test.ensures (stops _ (search rules) c.in_err-set_test.ensures)

pub returns : goal.returns
unfolding judge_test
returns c = goes_on _ c.in_ok-pattern_test.ensures (goes_on _ c.in_ok-set_test.ensures (ends c.letters_test.ensures))
