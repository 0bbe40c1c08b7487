-- `comparison::propose` makes the candidate of its number.
use Rattle.std.proofs.Common.{arith}
use Rattle.comparison.proofs.Proposing.{proposed_first, proposed_later}
use Rattle.comparison.proofs.propose.Goals as goal

pub returns-in_default : goal.returns-in_default
returns-in_default c = proposed_first _ (omega (arith, c.in_default.ensures))

pub returns : goal.returns
returns c = proposed_later c.args.examined _ (omega (arith, c.in-Some.ensures)) c.next.ensures c.next-2.ensures
