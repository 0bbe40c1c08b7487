-- `pattern::next` goes through the members of the set by their lowest bit.
use mathlib.Core.Path.{refl}
use native.Mathlib.Omega.{arith}
use Rattle.sets.proofs.Lowest.{lowest_of}
use Rattle.pattern.specs.Language.{next}
use Rattle.pattern.proofs.Picking.{picking_first, picking_done, picking_past, picking_next}
use Rattle.pattern.proofs.Shaped.next.Goals as goal

pub loop-left-init : goal.loop-left-init
loop-left-init c = rw c.empty-reached.ensures (picking_first c.ranges.set.fits)

pub returns-then-s-states : goal.returns-then-s-states
unfolding next
returns-then-s-states c = picking_past c.loop-left.invariant (lowest_of c.loop-left.left (omega arith) c.loop-left.invariant.fits) c.if-s-states.true

pub loop-left-preserved : goal.loop-left-preserved
loop-left-preserved c = picking_next c.loop-left.invariant (lowest_of c.loop-left.left (omega arith) c.loop-left.invariant.fits) c.if-s-states.false refl

pub returns : goal.returns
unfolding next
returns c = picking_done c.loop-left.invariant (omega arith)
