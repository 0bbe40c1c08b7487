-- What the theorems over the call speak of.
--   IsRefused      the answer is a refusal
--   Roomy          a room that is allowed and lent
--   Comparable     a call that is not refused (`compare_fine`)
--   compare_lines   the lines of the refusals: `compare_test` goes by them (`compare_lines_lem`)
--   Honest         what an answer means, by the numbers that a host sees (the scope, §13.3)
--   Quiet          what a refusal leaves: every number 0, all that is lent as it was
--   SameWritten    two calls wrote the same records and the same sequence
--   LessRoom       what a call in a smaller room answers and leaves, by what the larger one does
use Rattle.std.specs.Prelude.{◌≡◌, ◌↔◌, ℕ, suc, ◌+◌, ◌*◌, ◌≤◌, ◌<◌, length, take, Ok, Err}
use Rattle.verdict.specs.Verdict.Verdict.{Against}
use Rattle.verdict.specs.Lines.{Lines, Applies}
use Rattle.verdict.specs.Lines.Lines.{none, line}
use Rattle.sets.specs.Sets.{Good}
use Rattle.sets.specs.Rooms.{max_room}
use Rattle.pattern.specs.Refusals.{MasksGood, shape_lines}
use Rattle.pattern.specs.Language.{SameLanguage}
use Rattle.walk.specs.Walk.{Question}
use Rattle.walk.specs.Columns.{firsts, Fit}
use Rattle.walk.specs.Meaning.{Proper, Outgrows, Tells, number_kept}
use Rattle.comparison.specs.Answers.{Answered, number_of, values_of, Lent, Call, compare_test}
use Rattle.comparison.specs.declared.Answer.{Answer}

abbrev pub IsRefused : Answered → Type 0
IsRefused (Ok (Answer.Same kept examined)) = ⊥
IsRefused (Ok (Answer.Different kept examined length)) = ⊥
IsRefused (Ok (Answer.Full kept examined)) = ⊥
IsRefused (Err why) = Unit {0}

-- ---- the refusals

-- the room is at most the largest, and nothing that is lent is shorter
pub record Roomy (room : ℕ) (lent : Lent) : Type 0 where
  pub most : room ≤ max_room
  pub columns_fit : Fit room lent.columns
  pub sequence_fits : room ≤ length lent.sequence

abbrev pub Comparable : Call → Type 0
Comparable c = Proper c.question × Roomy c.room c.lent

-- X and Y are sets of the pattern's states
abbrev pub SidesGood : Question → Type 0
SidesGood Q = Good Q.pattern.states Q.left × Good Q.pattern.states Q.right

-- 10, 11, 13, 12
abbrev pub compare_lines : Call → Lines
compare_lines c =
    shape_lines c.question.pattern (line 13 (Roomy c.room c.lent) (line 12 (MasksGood c.question.pattern × SidesGood c.question) none))

-- ---- the answers

-- 0 SAME, 1 DIFFERENT; 2 FULL exactly where nothing is refused and the walk has to keep one more pair than the room allows; a refusal, 10 and up,
-- exactly where a line applies, by its number
pub record Honest (c : Call) (a : Answered) (later : Lent) : Type 0 where
  pub same : number_of a ≡ 0 → SameLanguage c.question.pattern c.question.left c.question.right
  pub all_examined : number_of a ≡ 0 → (values_of a).examined ≡ 1 + c.question.pattern.letters * (values_of a).kept
  pub different : number_of a ≡ 1 → Tells c.question (take (values_of a).length later.sequence)
  pub full : (number_of a ≡ 2) ↔ (Comparable c × Outgrows c.question c.room)
  pub room_kept : number_of a ≡ 2 → (values_of a).kept ≡ c.room
  pub refused : IsRefused a ↔ (Comparable c → ⊥)
  pub refused_by : (number : ℕ) → (IsRefused a × (number_of a ≡ number)) ↔ Applies (compare_lines c) number
  pub high : IsRefused a → 10 ≤ number_of a
  pub kept_fits : (values_of a).kept ≤ c.room
  pub examined_fits : (values_of a).examined ≤ 1 + c.question.pattern.letters * (values_of a).kept
  pub length_fits : (values_of a).length ≤ (values_of a).kept

pub record Quiet (c : Call) (a : Answered) (later : Lent) : Type 0 where
  pub reason : compare_test c ≡ Against (number_of a)
  pub kept : (values_of a).kept ≡ 0
  pub examined : (values_of a).examined ≡ 0
  pub length : (values_of a).length ≡ 0
  pub unchanged : later ≡ c.lent

-- so many records, and a sequence of the length
pub record SameWritten (kept length : ℕ) (l m : Lent) : Type 0 where
  pub columns : firsts kept l.columns ≡ firsts kept m.columns
  pub sequence : take length l.sequence ≡ take length m.sequence

-- (a, l) by (b, m): the same if the room holds what is kept; else FULL with the first records, at the candidate that was kept next
pub record LessRoom (letters room : ℕ) (b : Answered) (m : Lent) (a : Answered) (l : Lent) : Type 0 where
  pub same : (values_of b).kept ≤ room → (a ≡ b) × SameWritten (values_of b).kept (values_of b).length l m
  pub full : room < (values_of b).kept → (a ≡ Ok (Answer.Full room (suc (number_kept letters m.columns room)))) × SameWritten room 0 l m
