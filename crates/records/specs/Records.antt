-- A host's list of records, and what the comparison and the one-way question over it answer and leave: the promises of `comparison`, as a host reads them.
--   written, record_of   a kept record as it lies in a host's list, and back; value_in: what a host's record has in a field
--   columns_in          a host's list, column by column
--   call_on             the call over columns that a host's list and the sequence bytes stand for
--   lay_records         the kept records in the first places, every other record as it was
--   ComparedRecords     the answer, the records and the sequence: one result for every call (`pb_compare_determined`), the same as over columns
--                       (`pb_compare_by_columns`, `pb_compare_agrees`)
--   IncludedRecords     the same of the one-way question (`pb_within_determined`, `pb_within_by_columns`, `pb_within_agrees`)
use Rattle.std.specs.Prelude.{◌≡◌, List, map, ℕ, Err}
use Rattle.verdict.specs.declared.Refusal.{Refusal}
use Rattle.verdict.specs.Refusals.{number}
use Rattle.verdict.specs.Verdict.Verdict.{Fine, Against}
use Rattle.lent.specs.Lent.{lay}
use Rattle.walk.specs.Walk.{Question, Record, Outcome, kept_of, word_of, Walk}
use Rattle.walk.specs.Columns.{Field, value, Columns, columns_by}
use Rattle.walk.specs.Inclusion.{joined}
use Rattle.comparison.specs.Answers.{Lent, Call, compare_test, answer_of}
use Rattle.comparison.specs.Inclusion.{answered_one_way}
use Rattle.records.specs.declared.PbRecord.{PbRecord}
use Rattle.records.specs.declared.answers.PbCompared.{PbCompared}
use Rattle.records.specs.Answers.{compare_answer, inclusion_answer}

abbrev pub written : Record → PbRecord
written r = record { left = r.left; right = r.right; parent = r.parent; letter = r.letter }

abbrev pub record_of : PbRecord → Record
record_of r = record { left = r.left; right = r.right; parent = r.parent; letter = r.letter }

abbrev pub value_in : Field → PbRecord → ℕ
value_in x r = value x (record_of r)

abbrev pub columns_in : List PbRecord → Columns
columns_in records = columns_by (λ (x : Field). map (value_in x) records)

abbrev pub lent_for : List PbRecord → List ℕ → Lent
lent_for records sequence = record { columns = columns_in records; sequence = sequence }

abbrev pub call_on : Question → ℕ → List PbRecord → List ℕ → Call
call_on Q room records sequence = record { question = Q; room = room; lent = lent_for records sequence }

abbrev pub lay_records : List Record → List PbRecord → List PbRecord
lay_records kept old = lay (map written kept) old

-- a refusal changes nothing that is lent; any other answer is the walk's outcome
pub data ComparedRecords (Q : Question) (room : ℕ) (records : List PbRecord) (sequence : List ℕ) : PbCompared → List PbRecord → List ℕ → Type 0 where
  refuses : (why : Refusal) → compare_test (call_on Q room records sequence) ≡ Against (number why)
      → ComparedRecords Q room records sequence (compare_answer (Err why)) records sequence
  walks : {o : Outcome} → compare_test (call_on Q room records sequence) ≡ Fine → Walk Q room o
      → ComparedRecords Q room records sequence (compare_answer (answer_of o)) (lay_records (kept_of o) records) (lay (word_of o) sequence)

-- a refusal is the comparison's, of X and Y as given, and changes nothing that is lent; any other answer is the outcome of the walk of X+Y and Y
pub data IncludedRecords (Q : Question) (room : ℕ) (records : List PbRecord) (sequence : List ℕ) : PbCompared → List PbRecord → List ℕ → Type 0 where
  refuses : (why : Refusal) → compare_test (call_on Q room records sequence) ≡ Against (number why)
      → IncludedRecords Q room records sequence (inclusion_answer (Err why)) records sequence
  walks : {o : Outcome} → compare_test (call_on Q room records sequence) ≡ Fine → Walk (joined Q) room o
      → IncludedRecords Q room records sequence (inclusion_answer (answered_one_way (answer_of o))) (lay_records (kept_of o) records) (lay (word_of o) sequence)
