-- What was read, with the marks so far.
use Prim.Native.Nat.{◌-◌}
use lib.ListN.{length}
use Rattle.expressions.proofs.Marking.{Marking}
use Rattle.expressions.proofs.marks.Given as goal

abbrev pub invariant-loop-x : goal.invariant-loop-x
invariant-loop-x l = Marking l.text l.fn.x l.fn.tables l.tables l.x

abbrev pub decreases-loop-x : goal.decreases-loop-x
decreases-loop-x l = length l.text - l.x.next.place
