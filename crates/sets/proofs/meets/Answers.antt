-- `sets::meets` is the definition of that name.
use mathlib.Core.Path.{refl}
use Rattle.sets.specs.Sets.{meets}
use Rattle.sets.proofs.meets.Goals as goal

pub returns : goal.returns
unfolding meets
returns c = refl
