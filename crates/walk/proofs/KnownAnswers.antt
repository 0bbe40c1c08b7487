-- `known_answers`: the scope's questions with known answers (§11), by one computed test. Assumes nothing.
use mathlib.Core.Path.{◌≡◌, refl}
use mathlib.Core.List.{List, [], ◌∷◌, map}
use Prim.Native.Nat.{ℕ}
use mathlib.Core.Option.{Option}
use mathlib.Core.Option.Option.{some}
use Rattle.sets.specs.Sets.{meets}
use Rattle.pattern.specs.Language.{union_below, next, reach, accepts}
use Rattle.congruence.specs.Closing.{added}
use Rattle.congruence.proofs.Passes.{passed}
use Rattle.congruence.proofs.Computed.{passes, joined, top, closing, closing_closes}
use Rattle.walk.specs.Walk.{Record, lefts_of, rights_of, candidate, Outcome}
use Rattle.walk.specs.Known.{Row, table, Holds, Known}
use Rattle.walk.specs.Known.Row.{asks, closes}
use Rattle.walk.specs.Known.Known.{done, row}
use Rattle.walk.proofs.Computed.{pick, next_of, choose, path_to, word_to, told, play, walk, walk_computed}

-- what a row's test computes: an outcome, or a closed set
data Tested : Type 0 where
  walked : Option Outcome → Tested
  closed : ℕ → Tested

-- eight candidates are enough for every row
abbrev computed : Row → Tested
computed (asks Q room o) = walked (walk 8 Q room)
computed (closes pairs set to) = closed (closing (lefts_of pairs) (rights_of pairs) set)

abbrev stated : Row → Tested
stated (asks Q room o) = walked (some o)
stated (closes pairs set to) = closed to

closed_to : (pairs : List Record) (set to : ℕ) → closing (lefts_of pairs) (rights_of pairs) set ≡ to → Holds (closes pairs set to)
closed_to pairs set to e = rw e at (closing_closes (lefts_of pairs) (rights_of pairs) set)

tested : (rows : List Row) → map computed rows ≡ map stated rows → Known rows
tested [] e = done
tested (asks Q room o ∷ rows) e = row (walk_computed 8 Q room o (cc)) (tested rows (cc))
tested (closes pairs set to ∷ rows) e = row (closed_to pairs set to (cc)) (tested rows (cc))

pub known_answers : Known table
unfolding walk play told word_to path_to choose next_of pick closing top joined passes passed added candidate union_below next reach meets accepts
known_answers = tested table refl
