-- The loop of `records::checks::gather`: the sides of the records before `i` are gathered.
use Rattle.records.specs.Inner.{Gathers}
use Rattle.records.proofs.checks.gather.Given as goal

abbrev pub invariant-loop-i : goal.invariant-loop-i
invariant-loop-i l = Gathers l.records l.i l.lefts l.rights
