-- `evidencefile::fill_pairs` stores so many pairs: `Filling` follows the loop.
use Rattle.evidencefile.proofs.Filling.{Filling}
use Rattle.evidencefile.proofs.fill_pairs.Given as goal

abbrev pub invariant-loop-i : goal.invariant-loop-i
invariant-loop-i l = Filling l.bytes l.at l.count l.fn.lefts l.fn.rights l.lefts l.rights l.i l.place
