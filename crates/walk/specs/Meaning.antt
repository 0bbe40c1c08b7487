-- What the theorems over the walk speak of.
--   Proper       a valid question
--   Settled      an outcome that is not FULL
--   Counted      the counts of an outcome, as the scope has them (§6)
--   number_kept   the number of the candidate that was kept as a record
--   cut_to       FULL in a smaller room, by the records that a larger one keeps
--   Outgrows     the walk has to keep one more pair than a room allows
--   Tells        a sequence that is accepted from exactly one of the two sets
--   Covers       a list that has every set reached from either start
use Rattle.std.specs.Prelude.{◌≡◌, ℕ, zero, suc, ◌+◌, ◌*◌, ◌≤◌, ◌<◌, length, take}
use mathlib.Core.List.{List, Memᴰ}
use Rattle.sets.specs.Sets.{Good}
use Rattle.pattern.specs.Pattern.{Valid}
use Rattle.pattern.specs.Language.{reach, accepts, Over}
use Rattle.walk.specs.Walk.{Question, Record, Outcome, kept_of, examined_of, Walk}
use Rattle.walk.specs.Walk.Outcome.{Same, Different, Full}
use Rattle.walk.specs.Columns.{Columns, columns_of, record_at}

-- a valid pattern, and two sets of its states
pub record Proper (Q : Question) : Type 0 where
  pub valid : Valid Q.pattern
  pub left_good : Good Q.pattern.states Q.left
  pub right_good : Good Q.pattern.states Q.right

abbrev pub Settled : Outcome → Type 0
Settled (Same kept e) = Unit {0}
Settled (Different kept e w) = Unit {0}
Settled (Full kept e) = ⊥

-- SAME: examined = 1 + k * kept; DIFFERENT: length never exceeds kept; FULL: kept = room
abbrev pub ByAnswer : Question → ℕ → Outcome → Type 0
ByAnswer Q room (Same kept examined) = examined ≡ 1 + Q.pattern.letters * length kept
ByAnswer Q room (Different kept examined word) = length word ≤ length kept
ByAnswer Q room (Full kept examined) = length kept ≡ room

-- and always: never more kept than the room, nor more examined than there are candidates
pub record Counted (Q : Question) (room : ℕ) (o : Outcome) : Type 0 where
  pub fits : length (kept_of o) ≤ room
  pub bounded : examined_of o ≤ 1 + Q.pattern.letters * length (kept_of o)
  pub by_answer : ByAnswer Q room o

-- record 0 was candidate 0; any other was candidate 1 + (parent * k + letter)
abbrev pub number_kept : ℕ → Columns → ℕ → ℕ
number_kept k records zero = 0
number_kept k records (suc i) = 1 + ((record_at records (suc i)).parent * k + (record_at records (suc i)).letter)

-- the first records as the room allows, and the candidate that was kept next found no room
abbrev pub cut_to : Question → ℕ → List Record → Outcome
cut_to Q room kept = Full (take room kept) (suc (number_kept Q.pattern.letters (columns_of kept) room))

-- where there is room for one more, the walk keeps more than the room allows
pub record Outgrows (Q : Question) (room : ℕ) : Type 0 where
  pub outcome : Outcome
  pub walk : Walk Q (room + 1) outcome
  pub more : room < length (kept_of outcome)

pub record Tells (Q : Question) (w : List ℕ) : Type 0 where
  pub letters : Over Q.pattern.letters w
  pub differ : accepts Q.pattern Q.left w ≡ accepts Q.pattern Q.right w → ⊥

pub record Covers (Q : Question) (sets : List ℕ) : Type 0 where
  pub from_left : (w : List ℕ) → Over Q.pattern.letters w → Memᴰ (reach Q.pattern Q.left w) sets
  pub from_right : (w : List ℕ) → Over Q.pattern.letters w → Memᴰ (reach Q.pattern Q.right w) sets
