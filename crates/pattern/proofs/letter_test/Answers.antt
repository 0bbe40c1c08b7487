-- `pattern::letter_test` is the definition of that name.
use Rattle.verdict.proofs.Refusals.{said_held}
use Rattle.pattern.specs.Judge.{letter_test}
use Rattle.pattern.proofs.letter_test.Goals as goal

pub returns : goal.returns
unfolding letter_test
returns c = rw (c.need.ensures, c.from.ensures) (said_held _ _)
