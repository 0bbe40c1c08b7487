-- What asking answers, for all bytes that can be taken in, and what it leaves in all that it is lent.
--   row_room                the row buffer of who asks
--   Asks input Q            the bytes taken in are the pattern file of the question Q, and of no other (`asks_one`); it is a proper one (`asks_proper`)
--   Refuses input w place   reading them gives the refusal w at a place; every input asks or is refused (`asks_or_refuses`), and none does both
--   Answers room input rows lent asked rows' lent'
--                           what is answered in a room, and what the rows, the records and the sequence then are: nothing is left open
--                           (`answers_determined`), every input has an answer (`always_answered`), which the bytes and the room alone say
--                           (`one_answer`), which means what the comparison's does (`answers_honest`), and which no byte from 20,513 on changes
--                           (`cap_answers_the_same`)
--   Suffices room rows lent
--                           the row buffer, and a room that is allowed and lent: the comparison then refuses no file that was read (`never_refused`)
--   call_for Q room lent    the comparison of a question
--   AnswersFile             what is answered and left, of the code's tables
use Rattle.std.specs.Prelude.{◌≡◌, List, ℕ, ◌*◌, length, Result, Ok, Err}
use Rattle.verdict.specs.declared.Fault.{Fault}
use Rattle.verdict.specs.Refusals.{number}
use Rattle.lent.specs.Lent.{lay}
use Rattle.numbers.specs.Format.{refused, file_reading}
use Rattle.patternfile.specs.PatternFile.{pattern_format}
use Rattle.patternfile.specs.Reader.{FileOf}
use Rattle.walk.specs.Walk.{Question, Outcome, kept_of, word_of, Walk}
use Rattle.comparison.specs.Answers.{Lent, Call, outcome_answer, lay_out, lent_in, SameTables}
use Rattle.comparison.specs.declared.Answer.{Answer}
use Rattle.comparison.specs.declared.Tables.{Tables}
use Rattle.comparison.specs.Meaning.{Roomy}

-- a row for each of 64 states and 32 letters: no pattern finds too little room
abbrev pub row_room : ℕ
row_room = 64 * 32

abbrev pub Asks : List ℕ → Question → Type 0
Asks input Q = FileOf row_room input Q.pattern Q.left Q.right

abbrev pub Refuses : List ℕ → ℕ → ℕ → Type 0
Refuses input w place = file_reading (pattern_format row_room) input ≡ refused w place

-- the comparison of a question
abbrev pub call_for : Question → ℕ → Lent → Call
call_for Q room lent = record { question = Q; room = room; lent = lent }

-- the comparison's answer, or the reader's refusal and its place
abbrev pub Asked : Type 0
Asked = Result Answer Fault

-- a refusal changes nothing; else the rows, the records and the sequence lie over what was there
pub data Answers (room : ℕ) (input rows : List ℕ) (lent : Lent) : Asked → List ℕ → Lent → Type 0 where
  refuses : {fault : Fault} → Refuses input (number fault.why) fault.place → Answers room input rows lent (Err fault) rows lent
  answers : {Q : Question} {o : Outcome} → Asks input Q → Walk Q room o
      → Answers room input rows lent (Ok (outcome_answer o)) (lay Q.pattern.rows rows) (lay_out (kept_of o) (word_of o) lent)

pub record Suffices (room : ℕ) (rows : List ℕ) (lent : Lent) : Type 0 where
  pub rows_fit : length rows ≡ row_room
  pub roomy : Roomy room lent

-- the same, of the code's tables, which are of the same slices
pub record AnswersFile (bytes : List ℕ) (room : ℕ) (rows : List ℕ) (old : Tables) (asked : Asked) (rows' : List ℕ) (new : Tables) : Type 0 where
  pub answers : Answers room bytes rows (lent_in old) asked rows' (lent_in new)
  pub same_tables : SameTables old new
