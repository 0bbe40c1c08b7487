-- The loop of `records::compares::fill`: the records before `i` are written.
use Rattle.std.proofs.Common.{◌≡◌}
use Rattle.records.specs.Inner.{columns_lent, filled}
use Rattle.records.proofs.compares.fill.Given as goal

abbrev pub invariant-loop-i : goal.invariant-loop-i
invariant-loop-i l = l.records ≡ filled (columns_lent l.tables) l.initial.records l.i
