-- `congruence::Pairs::grow` goes on by passes until one adds nothing.
use Rattle.std.proofs.Common.{arith}
use Rattle.congruence.specs.Closing.Grows.{nothing}
use Rattle.sets.proofs.Inclusion.{within_le}
use Rattle.congruence.proofs.Growth.{grown_on, grown_within}
use Rattle.congruence.proofs.Pairs.grow.Goals as goal

pub loop-mask-init : goal.loop-mask-init
loop-mask-init c = nothing

pub loop-mask-smaller : goal.loop-mask-smaller
loop-mask-smaller c = omega (arith, within_le (grown_within c.pass-mask.ensures.grown), c.pass-mask.type_inv)

pub loop-mask-preserved : goal.loop-mask-preserved
loop-mask-preserved c = grown_on c.loop-mask.invariant c.pass-mask.ensures.grown

pub returns : goal.returns
returns c = record { grown = grown_on c.loop-mask.invariant c.pass-mask.ensures.grown; ended = c.pass-mask.ensures.still c.if-mask-before.true }
