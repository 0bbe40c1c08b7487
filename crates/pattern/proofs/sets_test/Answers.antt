-- `pattern::sets_test` tests each mask.
use Rattle.std.proofs.Common.{rules}
use Rattle.pattern.specs.Tests.{set_test}
use Rattle.verdict.specs.Tests.{each}
use Rattle.pattern.proofs.sets_test.Goals as goal

pub returns : goal.returns
unfolding each
returns c = c.every.ensures.each (set_test c.args.states) (λ v r h. search rules)
