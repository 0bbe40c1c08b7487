-- `pattern::letters_test` tests each letter.
use Rattle.std.proofs.Common.{rules}
use Rattle.pattern.specs.Judge.{letter_test}
use Rattle.verdict.specs.Tests.{each}
use Rattle.pattern.proofs.letters_test.Goals as goal

pub returns : goal.returns
unfolding each
returns c = c.every.ensures.each (letter_test c.args.letters) (λ v r h. search rules)
