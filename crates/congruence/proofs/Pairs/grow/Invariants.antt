-- What the passes keep: a mask that grew from the set. Each pass before the last adds a state.
use Rattle.std.proofs.Common.{◌-◌, ◌^◌}
use Rattle.congruence.specs.Lent.{listed_in}
use Rattle.congruence.specs.Closing.{Grows}
use Rattle.congruence.proofs.Pairs.grow.Given as goal

abbrev pub invariant-loop-mask : goal.invariant-loop-mask
invariant-loop-mask l = Grows (listed_in l.self) l.set l.mask

abbrev pub decreases-loop-mask : goal.decreases-loop-mask
decreases-loop-mask l = 2 ^ 64 - l.mask
