-- `patternfile::fill` stores numbers: `Filling` follows the loop.
use lib.ListN.{length}
use Rattle.patternfile.proofs.Filling.{Filling}
use Rattle.patternfile.proofs.fill.Given as goal

abbrev pub invariant-loop-row : goal.invariant-loop-row
invariant-loop-row l = Filling l.bytes l.at (length l.fn.rows) l.fn.rows l.row-items l.row-index l.place
