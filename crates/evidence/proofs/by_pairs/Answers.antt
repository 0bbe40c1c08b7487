-- `evidence::by_pairs` tries the listed pairs in turn, and stops at the first that does not hold.
use Rattle.std.proofs.Common.{rules, arith}
use Rattle.evidence.specs.Evidence.ByPairs.{all_hold, fails}
use Rattle.evidence.proofs.by_pairs.Goals as goal

pub returns-then-not-holds : goal.returns-then-not-holds
returns-then-not-holds c = fails (omega (arith, c.loop-place-test.true)) (λ j l. c.loop-place.invariant j (omega (arith, l))) (λ h. search rules)

pub returns : goal.returns
returns c = all_hold (λ j l. c.loop-place.invariant j (omega (arith, l, c.loop-place-test.false)))
