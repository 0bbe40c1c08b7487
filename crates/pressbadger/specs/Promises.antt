-- What a host is promised of each call (the scope, §13): over the numbers that are returned, and over the memory that is lent. It is shown in
-- proofs/Promises of every result that a contract allows, and `include/pressbadger.h` says it in words.
--   SAME .. TOO_BIG     the numbers of the answers, by the names that the scope gives them (§7); OneOf: a number is one of several
--   compare_refusals ..  the refusals of each call
--   ComparedMeans       what a PbCompared means: answered or refused, SAME, DIFFERENT and FULL, and the counts
--   LeftLists, LeftRecords
--                       what a comparison leaves in all that it is lent
--   WalkedLists, WalkedRecords
--                       the records, the sequence and the counts are those of the walk
--   SameRecords, LessRoom
--                       what one room says of another
--   WithinMeans         what a PbCompared means that answers the one-way question
--   CheckedMeans, JudgedMeans, PatternMeans, WrittenMeans, ExpressedMeans
--                       what a PbChecked, a PbJudged, a PbPattern, a PbWritten, a PbExpressed mean; of the last three: and what is left in the buffer
use Rattle.std.specs.Prelude.{◌≡◌, ◌↔◌, true, false, ℕ, suc, ◌+◌, ◌*◌, ◌≤◌, ◌<◌, length, take, drop}
use mathlib.Core.List.{List, [], ◌∷◌, map, Memᴰ}
use Rattle.verdict.specs.Lines.{Lines, Applies}
use Rattle.verdict.specs.Lines.Lines.{none, line}
use Rattle.lent.specs.Lent.{lay}
use Rattle.sets.specs.Rooms.{max_room}
use Rattle.pattern.specs.Pattern.{Pattern, pattern_of}
use Rattle.pattern.specs.Language.{accepts, SameLanguage}
use Rattle.pattern.specs.Refusals.{MasksGood, shape_lines}
use Rattle.pattern.specs.Inclusion.{LanguageWithin, Escapes}
use Rattle.pattern.specs.Judge.{Judgeable, judge_lines}
use Rattle.walk.specs.Walk.{Question, Outcome, kept_of, word_of, Walk}
use Rattle.walk.specs.Columns.{Field, Columns, column, columns_of, firsts}
use Rattle.walk.specs.Meaning.{Proper, Outgrows, Tells, number_kept}
use Rattle.walk.specs.Inclusion.{joined}
use Rattle.comparison.specs.Answers.{Lent, answer_of}
use Rattle.comparison.specs.Meaning.{SidesGood}
use Rattle.evidence.specs.Evidence.{Offer, ValidOffer}
use Rattle.evidence.specs.Meaning.{check_lines, Holding, FailsAt}
use Rattle.numbers.specs.Faults.{Padded, TooBig, Stops}
use Rattle.patternfile.specs.PatternFile.{file_bytes, pattern_format}
use Rattle.patternfile.specs.Writer.{Allowed}
use Rattle.patternfile.specs.Refusals.{RefusedAt, write_lines}
use Rattle.patternfile.specs.Meaning.{Readable}
use Rattle.expressions.specs.Answers.{Refusal}
use Rattle.expressions.specs.Meaning.{Expressible, Made}
use Rattle.records.specs.declared.PbRecord.{PbRecord}
use Rattle.records.specs.declared.answers.PbCompared.{PbCompared}
use Rattle.records.specs.declared.answers.PbChecked.{PbChecked}
use Rattle.records.specs.Answers.{compare_answer}
use Rattle.records.specs.Records.{written}
use Rattle.pressbadger.specs.declared.PbJudged.{PbJudged}
use Rattle.pressbadger.specs.declared.files.PbPattern.{PbPattern}
use Rattle.pressbadger.specs.declared.files.PbWritten.{PbWritten}
use Rattle.pressbadger.specs.declared.texts.PbExpressed.{PbExpressed}

-- ---- the numbers

abbrev pub SAME : ℕ
SAME = 0

abbrev pub DIFFERENT : ℕ
DIFFERENT = 1

abbrev pub FULL : ℕ
FULL = 2

abbrev pub ACCEPT : ℕ
ACCEPT = 3

abbrev pub REJECT : ℕ
REJECT = 4

abbrev pub PROVED : ℕ
PROVED = 5

abbrev pub NOT_PROVED : ℕ
NOT_PROVED = 6

abbrev pub DONE : ℕ
DONE = 7

abbrev pub WITHIN : ℕ
WITHIN = 8

abbrev pub NOT_WITHIN : ℕ
NOT_WITHIN = 9

abbrev pub BAD_SIZE : ℕ
BAD_SIZE = 10

abbrev pub BAD_TABLE : ℕ
BAD_TABLE = 11

abbrev pub BAD_SET : ℕ
BAD_SET = 12

abbrev pub BAD_ROOM : ℕ
BAD_ROOM = 13

abbrev pub NO_ROOM : ℕ
NO_ROOM = 14

abbrev pub BAD_LETTER : ℕ
BAD_LETTER = 15

abbrev pub BAD_LIST : ℕ
BAD_LIST = 16

abbrev pub CUT : ℕ
CUT = 20

abbrev pub PADDED : ℕ
PADDED = 21

abbrev pub TAIL : ℕ
TAIL = 22

abbrev pub TOO_BIG : ℕ
TOO_BIG = 23

abbrev pub SYNTAX : ℕ
SYNTAX = 30

abbrev pub TOO_MANY : ℕ
TOO_MANY = 31

abbrev pub TOO_DEEP : ℕ
TOO_DEEP = 32

abbrev pub OneOf : List ℕ → ℕ → Type 0
OneOf numbers w = Memᴰ w numbers

-- by their names: a number is no refusal for being high
abbrev pub compare_refusals : List ℕ
compare_refusals = BAD_SIZE ∷ BAD_TABLE ∷ BAD_ROOM ∷ BAD_SET ∷ []

abbrev pub check_refusals : List ℕ
check_refusals = BAD_SIZE ∷ BAD_TABLE ∷ BAD_LIST ∷ BAD_SET ∷ []

abbrev pub judge_refusals : List ℕ
judge_refusals = BAD_SIZE ∷ BAD_TABLE ∷ BAD_SET ∷ BAD_LETTER ∷ []

abbrev pub read_refusals : List ℕ
read_refusals = BAD_SIZE ∷ BAD_SET ∷ NO_ROOM ∷ CUT ∷ PADDED ∷ TAIL ∷ TOO_BIG ∷ []

abbrev pub write_refusals : List ℕ
write_refusals = BAD_SIZE ∷ BAD_TABLE ∷ BAD_SET ∷ NO_ROOM ∷ []

abbrev pub text_refusals : List ℕ
text_refusals = SYNTAX ∷ TOO_MANY ∷ TOO_DEEP ∷ NO_ROOM ∷ []

-- ---- the comparison: pb_compare and pb_compare_default over a list of records, pb_compare_lists over columns

-- the room is at most the largest, and neither the list of records nor the sequence bytes are shorter (over columns: `Roomy`)
pub record RoomFor (room : ℕ) (records : List PbRecord) (sequence : List ℕ) : Type 0 where
  pub most : room ≤ max_room
  pub records_fit : room ≤ length records
  pub sequence_fits : room ≤ length sequence

-- a valid question, in a room that is there: `Roomed` says that it is
abbrev pub Answerable : Question → Type 0 → Type 0
Answerable Q Roomed = Proper Q × Roomed

-- the lines of the refusals, in their order
abbrev pub lines_of : Question → Type 0 → Lines
lines_of Q Roomed = shape_lines Q.pattern (line BAD_ROOM Roomed (line BAD_SET (MasksGood Q.pattern × SidesGood Q) none))

pub record ComparedMeans (Q : Question) (room : ℕ) (Roomed : Type 0) (r : PbCompared) (word : List ℕ) : Type 0 where
  -- a valid question gets one of the three, and any other is refused, by the first line that applies
  pub answered : Answerable Q Roomed → OneOf (SAME ∷ DIFFERENT ∷ FULL ∷ []) r.answer
  pub refused : OneOf compare_refusals r.answer ↔ (Answerable Q Roomed → ⊥)
  pub refused_by : (w : ℕ) → (OneOf compare_refusals r.answer × (r.answer ≡ w)) ↔ Applies (lines_of Q Roomed) w
  -- SAME: every sequence is accepted from both or from neither
  pub same : r.answer ≡ SAME → SameLanguage Q.pattern Q.left Q.right
  -- DIFFERENT: the first bytes of the sequence are accepted from exactly one of the two
  pub different : r.answer ≡ DIFFERENT → Tells Q (take r.length word)
  -- FULL: exactly where the walk has to keep one more pair than the room allows
  pub full : (r.answer ≡ FULL) ↔ (Answerable Q Roomed × Outgrows Q room)
  pub full_room : r.answer ≡ FULL → r.kept ≡ room
  -- the counts
  pub all_examined : r.answer ≡ SAME → r.examined ≡ 1 + Q.pattern.letters * r.kept
  pub examined_fits : r.examined ≤ 1 + Q.pattern.letters * r.kept
  pub kept_fits : r.kept ≤ room
  pub length_fits : r.length ≤ r.kept
  pub no_length : (r.answer ≡ DIFFERENT → ⊥) → r.length ≡ 0

-- what is returned with a refusal, and with FULL
abbrev pub refused_compared : ℕ → PbCompared
refused_compared w = record { answer = w; kept = 0; examined = 0; length = 0 }

abbrev pub full_compared : ℕ → ℕ → PbCompared
full_compared room examined = record { answer = FULL; kept = room; examined = examined; length = 0 }

-- a refusal changes nothing; any other answer changes the first `kept` records and the first `length` sequence bytes alone
pub record LeftRecords (records : List PbRecord) (sequence : List ℕ) (r : PbCompared) (later : List PbRecord) (word : List ℕ) : Type 0 where
  pub quiet : OneOf compare_refusals r.answer → (r ≡ refused_compared r.answer) × (later ≡ records) × (word ≡ sequence)
  pub other_records : drop r.kept later ≡ drop r.kept records
  pub other_bytes : drop r.length word ≡ drop r.length sequence

pub record LeftLists (lent : Lent) (r : PbCompared) (later : Lent) : Type 0 where
  pub quiet : OneOf compare_refusals r.answer → (r ≡ refused_compared r.answer) × (later ≡ lent)
  pub other_numbers : (x : Field) → drop r.kept (column x later.columns) ≡ drop r.kept (column x lent.columns)
  pub other_bytes : drop r.length later.sequence ≡ drop r.length lent.sequence

-- the answer, the counts, the records and the sequence are those of the walk
pub record WalkedRecords (Q : Question) (room : ℕ) (r : PbCompared) (later : List PbRecord) (word : List ℕ) : Type 0 where
  pub outcome : Outcome
  pub walk : Walk Q room outcome
  pub numbers : r ≡ compare_answer (answer_of outcome)
  pub records : take r.kept later ≡ map written (kept_of outcome)
  pub sequence : take r.length word ≡ word_of outcome

pub record WalkedLists (Q : Question) (room : ℕ) (r : PbCompared) (later : Lent) : Type 0 where
  pub outcome : Outcome
  pub walk : Walk Q room outcome
  pub numbers : r ≡ compare_answer (answer_of outcome)
  pub columns : firsts r.kept later.columns ≡ columns_of (kept_of outcome)
  pub sequence : take r.length later.sequence ≡ word_of outcome

-- two calls wrote the same records and the same sequence (over columns: `SameWritten`)
pub record SameRecords (kept length : ℕ) (later : List PbRecord) (word : List ℕ) (later' : List PbRecord) (word' : List ℕ) : Type 0 where
  pub records : take kept later ≡ take kept later'
  pub sequence : take length word ≡ take length word'

-- r in a room, by what s answers and leaves in a larger one: the same where the room holds what s keeps, else FULL with the first records, at the
-- candidate that s kept next. `Same kept length` says that both wrote the same
pub record LessRoom (letters room : ℕ) (s : PbCompared) (records : Columns) (Same : ℕ → ℕ → Type 0) (r : PbCompared) : Type 0 where
  pub same : s.kept ≤ room → (r ≡ s) × Same s.kept s.length
  pub full : room < s.kept → (r ≡ full_compared room (suc (number_kept letters records room))) × Same room 0

-- ---- the one-way question: pb_within over a list of records, pb_within_lists over columns. What it leaves is said as of a comparison

pub record WithinMeans (Q : Question) (room : ℕ) (Roomed : Type 0) (r : PbCompared) (word : List ℕ) : Type 0 where
  -- a valid question gets one of the three, and any other is refused, as the comparison of X and Y is
  pub answered : Answerable Q Roomed → OneOf (WITHIN ∷ NOT_WITHIN ∷ FULL ∷ []) r.answer
  pub refused : OneOf compare_refusals r.answer ↔ (Answerable Q Roomed → ⊥)
  pub refused_by : (w : ℕ) → (OneOf compare_refusals r.answer × (r.answer ≡ w)) ↔ Applies (lines_of Q Roomed) w
  -- WITHIN: every sequence that is accepted from X is accepted from Y
  pub within : r.answer ≡ WITHIN → LanguageWithin Q.pattern Q.left Q.right
  -- NOT-WITHIN: the first bytes of the sequence are accepted from X and not from Y
  pub not_within : r.answer ≡ NOT_WITHIN → Escapes Q.pattern Q.left Q.right (take r.length word)
  -- FULL: exactly where the walk of X+Y and Y has to keep one more pair than the room allows
  pub full : (r.answer ≡ FULL) ↔ (Answerable Q Roomed × Outgrows (joined Q) room)
  pub full_room : r.answer ≡ FULL → r.kept ≡ room
  -- the counts
  pub all_examined : r.answer ≡ WITHIN → r.examined ≡ 1 + Q.pattern.letters * r.kept
  pub examined_fits : r.examined ≤ 1 + Q.pattern.letters * r.kept
  pub kept_fits : r.kept ≤ room
  pub length_fits : r.length ≤ r.kept
  pub no_length : (r.answer ≡ NOT_WITHIN → ⊥) → r.length ≡ 0

-- ---- evidence: pb_check, and pb_check_records at the two sides of the records

pub record CheckedMeans (o : Offer) (r : PbChecked) : Type 0 where
  pub answered : ValidOffer o → OneOf (PROVED ∷ NOT_PROVED ∷ []) r.answer
  pub refused : OneOf check_refusals r.answer ↔ (ValidOffer o → ⊥)
  pub refused_by : (w : ℕ) → (OneOf check_refusals r.answer × (r.answer ≡ w)) ↔ Applies (check_lines o) w
  -- PROVED: exactly where the evidence holds, and then every sequence is accepted from both or from neither, whoever wrote the list
  pub proved : (r.answer ≡ PROVED) ↔ (ValidOffer o × Holding o)
  pub same : r.answer ≡ PROVED → SameLanguage o.pattern o.x o.y
  -- NOT-PROVED: exactly where it fails, at its place
  pub not_proved : (place : ℕ) → ((r.answer ≡ NOT_PROVED) × (r.place ≡ place)) ↔ (ValidOffer o × FailsAt o place)
  pub no_place : (r.answer ≡ NOT_PROVED → ⊥) → r.place ≡ 0

-- ---- one sequence: pb_judge

pub record JudgedMeans (P : Pattern) (set : ℕ) (sequence : List ℕ) (r : PbJudged) : Type 0 where
  pub answered : Judgeable P set sequence → OneOf (ACCEPT ∷ REJECT ∷ []) r.answer
  pub refused : OneOf judge_refusals r.answer ↔ (Judgeable P set sequence → ⊥)
  pub refused_by : (w : ℕ) → (OneOf judge_refusals r.answer × (r.answer ≡ w)) ↔ Applies (judge_lines P set sequence) w
  pub accept : (r.answer ≡ ACCEPT) ↔ (Judgeable P set sequence × (accepts P set sequence ≡ true))
  pub reject : (r.answer ≡ REJECT) ↔ (Judgeable P set sequence × (accepts P set sequence ≡ false))

-- ---- pattern files: pb_read_pattern and pb_write_pattern

-- what is returned of the file of a pattern and two sets, and with a refusal
abbrev pub done_pattern : Pattern → ℕ → ℕ → PbPattern
done_pattern P x y = record { answer = DONE; states = P.states; letters = P.letters; finals = P.finals; x = x; y = y; place = 0 }

abbrev pub refused_pattern : ℕ → ℕ → PbPattern
refused_pattern w place = record { answer = w; states = 0; letters = 0; finals = 0; x = 0; y = 0; place = place }

-- the most rows of a pattern, and the bytes of the longest file: row buffers and byte buffers of these lengths are always enough
abbrev pub max_rows : ℕ
max_rows = 2048

abbrev pub longest_file : ℕ
longest_file = 20512

pub record PatternMeans (bytes old : List ℕ) (r : PbPattern) (new : List ℕ) : Type 0 where
  -- DONE: exactly where the bytes are a file; its values are returned, and its rows lie over the first entries of the buffer
  pub done : (r.answer ≡ DONE) ↔ Readable (length old) bytes
  pub returned : (f : Readable (length old) bytes) → (r ≡ done_pattern f.pattern f.x f.y) × (new ≡ lay f.pattern.rows old)
  -- any other is refused, exactly where reading stops, for its reason at its place, and changes nothing
  pub refused : OneOf read_refusals r.answer ↔ (Readable (length old) bytes → ⊥)
  pub refused_by : (w place : ℕ) → (OneOf read_refusals r.answer × (r.answer ≡ w) × (r.place ≡ place)) ↔ Stops (pattern_format (length old)) bytes 0 w place
  pub reason : OneOf read_refusals r.answer → RefusedAt (length old) bytes r.answer r.place
  -- PADDED and TOO-BIG say how the number at the place is badly written
  pub padded : r.answer ≡ PADDED → Padded 0 (drop r.place bytes)
  pub too_big : r.answer ≡ TOO_BIG → TooBig 0 (drop r.place bytes)
  pub quiet : OneOf read_refusals r.answer → (r ≡ refused_pattern r.answer r.place) × (new ≡ old)

abbrev pub done_written : ℕ → PbWritten
done_written count = record { answer = DONE; count = count }

abbrev pub refused_written : ℕ → PbWritten
refused_written w = record { answer = w; count = 0 }

pub record WrittenMeans (P : Pattern) (x y : ℕ) (old : List ℕ) (r : PbWritten) (new : List ℕ) : Type 0 where
  -- DONE: exactly where nothing is refused; the file's bytes lie over the first bytes of the buffer
  pub done : (r.answer ≡ DONE) ↔ Allowed P x y (length old)
  pub returned : r.answer ≡ DONE → (r ≡ done_written (length (file_bytes P x y))) × (new ≡ lay (file_bytes P x y) old)
  -- any other is refused, by the first line that applies, and changes nothing
  pub refused : OneOf write_refusals r.answer ↔ (Allowed P x y (length old) → ⊥)
  pub refused_by : (w : ℕ) → (OneOf write_refusals r.answer × (r.answer ≡ w)) ↔ Applies (write_lines P x y (length old)) w
  pub quiet : OneOf write_refusals r.answer → (r ≡ refused_written r.answer) × (new ≡ old)

-- ---- two texts made into one pattern: pb_expressions

abbrev pub done_expressed : ℕ → ℕ → ℕ → ℕ → PbExpressed
done_expressed n finals x y = record { answer = DONE; states = n; letters = 32; finals = finals; x = x; y = y; place = 0; text = 0 }

abbrev pub refused_expressed : ℕ → ℕ → ℕ → PbExpressed
refused_expressed w place text = record { answer = w; states = 0; letters = 0; finals = 0; x = 0; y = 0; place = place; text = text }

-- the pattern that is left: its numbers, and the first rows of the buffer
abbrev pub pattern_left : PbExpressed → List ℕ → Pattern
pattern_left r new = pattern_of r.states r.letters r.finals (take (r.states * r.letters) new)

pub record ExpressedMeans (one two old : List ℕ) (r : PbExpressed) (new : List ℕ) : Type 0 where
  -- DONE: exactly where both texts are right, nothing is wrong with either, and the rows have room; the pattern is that of the position
  -- construction, and each of its starts accepts exactly the sequences that its text takes
  pub done : (r.answer ≡ DONE) ↔ Expressible one two (length old)
  pub returned : r.answer ≡ DONE → r ≡ done_expressed r.states r.finals r.x r.y
  pub made : r.answer ≡ DONE → Made one two old new r.states r.finals r.x r.y
  -- any other is refused: the first text goes first, then by place, then by number, and NO-ROOM last; nothing is changed
  pub refused : OneOf text_refusals r.answer ↔ (Expressible one two (length old) → ⊥)
  pub refused_by : (w place text : ℕ)
      → (OneOf text_refusals r.answer × (r.answer ≡ w) × (r.place ≡ place) × (r.text ≡ text)) ↔ Refusal one two old w place text
  pub quiet : OneOf text_refusals r.answer → (r ≡ refused_expressed r.answer r.place r.text) × (new ≡ old)
