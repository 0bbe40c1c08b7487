-- `verdict::every`: the values from here on decide.
use Rattle.std.proofs.Common.{drop}
use Rattle.verdict.proofs.Rest.{Rest}
use Rattle.verdict.proofs.every.Given as goal

abbrev pub invariant-loop-value : goal.invariant-loop-value
invariant-loop-value g l = Rest (λ v r. goal.F-post g l.test v r) l.values (drop l.value-index l.values)
