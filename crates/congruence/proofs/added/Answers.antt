-- `congruence::added` adds the one where the other lies within.
use Rattle.std.proofs.Common.{◌∙◌}
use Rattle.congruence.proofs.Passes.{added_by}
use Rattle.congruence.proofs.added.Goals as goal

pub returns-then-within : goal.returns-then-within
returns-then-within c = c.union.ensures ∙ added_by _ c.if-within.ensures

pub returns : goal.returns
returns c = added_by _ c.if-within.ensures
