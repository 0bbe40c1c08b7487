-- `patternfile::pass_sets` judges so many sets: `Passing` follows the loop.
use Rattle.pattern.specs.Tests.{set_test}
use Rattle.patternfile.proofs.Passing.{Passing}
use Rattle.patternfile.proofs.pass_sets.Given as goal

abbrev pub invariant-loop : goal.invariant-loop
invariant-loop l = Passing (set_test l.states) l.bytes l.at l.count l.counter l.place
