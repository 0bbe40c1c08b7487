-- The loop of `comparison::run`: the lent lists stand where moves from the beginning lead.
use Rattle.std.proofs.Common.{◌+◌, ◌-◌, ◌*◌}
use Rattle.comparison.specs.Answers.{lent_in, call_in, SameTables}
use Rattle.comparison.proofs.Running.{Walking}
use Rattle.comparison.proofs.run.Given as goal

abbrev pub invariant-loop-examined : goal.invariant-loop-examined
invariant-loop-examined l = record {
  walking : Walking (call_in l.question l.room l.fn.tables) (lent_in l.tables) l.kept l.examined;
  same_tables : SameTables l.fn.tables l.tables;
}

abbrev pub decreases-loop-examined : goal.decreases-loop-examined
decreases-loop-examined l = 1 + l.question.pattern.letters * l.room - l.examined
