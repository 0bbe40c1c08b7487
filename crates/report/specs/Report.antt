-- What `compare` prints (the scope, §10), for all bytes that it can take in. Its lines are made of `word`, `decimal`, `line` and `refusal_text` (text), and
-- `event_name` (events).
--   record_lines kept         a line for each record: left and right in decimal
--   text_of outcome           the answer's name, kept, examined, and for DIFFERENT the length too; after SAME the records, after DIFFERENT the sequence
--   Prints room input text    what is printed for the bytes taken in: one text for each input (`prints_determined`), which no byte from
--                             20,513 on changes (`cap_prints_the_same`)
--   longest room              no text is longer
--   Reported room input old r new
--                             the text stands at the start of the byte buffer, r bytes, and the rest is as it was (`reports_determined`)
--   Leaves                    what all else that is lent holds then (`answers_determined`)
use Rattle.std.specs.Prelude.{◌≡◌, List, [], ◌∷◌, ◌++◌, map, ℕ, ◌+◌, ◌*◌, ◌≤◌, length, take}
use Rattle.lent.specs.Lent.{Put}
use Rattle.walk.specs.Walk.{Question, Record, Outcome, Walk}
use Rattle.walk.specs.Walk.Outcome.{Same, Different, Full}
use Rattle.comparison.specs.declared.Tables.{Tables}
use Rattle.asking.specs.Asking.{Asked, Asks, Refuses, AnswersFile}
use Rattle.text.specs.Text.{word, decimal, line, refusal_text}
use Rattle.events.specs.Events.{event_name}

unfoldable pub record_lines : List Record → List ℕ
record_lines [] = []
record_lines (r ∷ kept) = line (decimal r.left ∷ decimal r.right ∷ []) ++ record_lines kept

-- an empty sequence is an empty line (`no_names`)
unfoldable pub text_of : Outcome → List ℕ
text_of (Same kept examined) = line (word "SAME" ∷ decimal (length kept) ∷ decimal examined ∷ []) ++ record_lines kept
text_of (Different kept examined sequence) =
    line (word "DIFFERENT" ∷ decimal (length kept) ∷ decimal examined ∷ decimal (length sequence) ∷ []) ++ line (map event_name sequence)
text_of (Full kept examined) = line (word "FULL" ∷ decimal (length kept) ∷ decimal examined ∷ [])

pub data Prints (room : ℕ) (input : List ℕ) : List ℕ → Type 0 where
  refuses : {number place : ℕ} → Refuses input number place → Prints room input (refusal_text number place)
  answers : {Q : Question} {o : Outcome} → Asks input Q → Walk Q room o → Prints room input (text_of o)

-- a line of nine letters and three numbers, an empty line, and a line of two numbers for each record, each number of at most 20 digits
abbrev pub longest : ℕ → ℕ
longest room = 74 + 42 * room

-- the last two parts follow from `put`; a caller needs them to lend `&out[..r]`
pub record Reported (room : ℕ) (input old : List ℕ) (r : ℕ) (new : List ℕ) : Type 0 where
  pub text : List ℕ
  pub prints : Prints room input text
  pub put : Put old 0 text r new
  pub within : r ≤ length new
  pub counted : r ≡ length (take r new)

-- the rows, the records and the sequence are those of what was answered
abbrev pub Leaves : List ℕ → ℕ → List ℕ → Tables → List ℕ → Tables → Type 0
Leaves bytes room rows old rows' new = (asked : Asked) × AnswersFile bytes room rows old asked rows' new
