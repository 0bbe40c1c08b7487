-- The two loops of `comparison::spell`: the letters are counted on the way up, and written from the end on the same way.
use Rattle.std.proofs.Common.{◌≡◌, ◌-◌, length, take}
use Rattle.comparison.specs.Answers.{lent_in, SameTables}
use Rattle.comparison.proofs.Spelling.{Climbing, Writing}
use Rattle.comparison.proofs.spell.Given as goal

abbrev pub invariant-loop-i : goal.invariant-loop-i
invariant-loop-i l = Climbing (take l.kept l.tables.parents.now) (take l.kept l.tables.taken.now) l.from l.count l.i

abbrev pub decreases-loop-i : goal.decreases-loop-i
decreases-loop-i l = length l.tables.sequence.now - l.count

abbrev pub invariant-loop-j : goal.invariant-loop-j
invariant-loop-j l = record {
  writing : Writing (take l.kept l.fn.tables.parents.now) (take l.kept l.fn.tables.taken.now) l.from l.count l.initial.tables.sequence.now l.tables.sequence.now l.at l.j;
  columns_kept : (lent_in l.tables).columns ≡ (lent_in l.fn.tables).columns;
  same_tables : SameTables l.fn.tables l.tables;
}

abbrev pub decreases-loop-j : goal.decreases-loop-j
decreases-loop-j l = l.at
