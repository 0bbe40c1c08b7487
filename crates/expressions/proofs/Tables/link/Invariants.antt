-- The states below s are linked.
use Rattle.expressions.proofs.Links.{Linking}
use Rattle.expressions.proofs.Tables.link.Given as goal

abbrev pub invariant-loop-s : goal.invariant-loop-s
invariant-loop-s l = Linking l.lasts l.firsts l.s l.fn.self.follow l.next-items
