-- `pattern::next` goes through the members of the set by their lowest bit.
use Prim.Native.Nat.{ℕ, ◌+◌, ◌*◌}
use lib.ListN.{get_or}
use Rattle.pattern.proofs.Picking.{Picking}
use Rattle.pattern.proofs.Shaped.next.Given as goal

abbrev pub invariant-loop-left : goal.invariant-loop-left
invariant-loop-left l = Picking (λ (s : ℕ). get_or l.rows (s * l.letters + l.letter) 0) l.states l.fn.set l.reached l.left

abbrev pub decreases-loop-left : goal.decreases-loop-left
decreases-loop-left l = l.left
