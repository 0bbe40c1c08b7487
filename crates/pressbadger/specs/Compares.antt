-- What the comparison answers and leaves in what is lent: over a list of records, and over lists of numbers.
use Rattle.std.specs.Prelude.{List, ℕ}
use Rattle.lent.specs.Lent.{SliceOf, Slice, before, after}
use Rattle.walk.specs.Walk.{question_of}
use Rattle.comparison.specs.Answers.{Lent, lent_of, call_of}
use Rattle.records.specs.declared.PbRecord.{PbRecord}
use Rattle.records.specs.declared.answers.PbCompared.{PbCompared}
use Rattle.records.specs.Answers.{ComparedLists}
use Rattle.records.specs.Records.{ComparedRecords}

abbrev pub ComparesRecords : ℕ → ℕ → ℕ → List ℕ → ℕ → ℕ → ℕ → SliceOf PbRecord → Slice → PbCompared → Type 0
ComparesRecords states letters finals rows x y room records sequence r =
    ComparedRecords (question_of states letters finals rows x y) room (before records) (before sequence) r (after records) (after sequence)

-- what lent lists hold when the call begins, and when it ends
abbrev pub lent_before : Slice → Slice → Slice → Slice → Slice → Lent
lent_before lefts rights parents taken sequence = lent_of (before lefts) (before rights) (before parents) (before taken) (before sequence)

abbrev pub lent_after : Slice → Slice → Slice → Slice → Slice → Lent
lent_after lefts rights parents taken sequence = lent_of (after lefts) (after rights) (after parents) (after taken) (after sequence)

abbrev pub ComparesLists : ℕ → ℕ → ℕ → List ℕ → ℕ → ℕ → ℕ → Slice → Slice → Slice → Slice → Slice → PbCompared → Type 0
ComparesLists states letters finals rows x y room lefts rights parents taken sequence r =
    ComparedLists (call_of states letters finals rows x y room (lent_before lefts rights parents taken sequence)) r (lent_after lefts rights parents taken sequence)
