-- What the one-way question answers and leaves in what is lent: over a list of records, and over lists of numbers.
use Rattle.std.specs.Prelude.{List, ℕ}
use Rattle.lent.specs.Lent.{SliceOf, Slice, before, after}
use Rattle.walk.specs.Walk.{question_of}
use Rattle.comparison.specs.Answers.{call_of}
use Rattle.pressbadger.specs.Compares.{lent_before, lent_after}
use Rattle.records.specs.declared.PbRecord.{PbRecord}
use Rattle.records.specs.declared.answers.PbCompared.{PbCompared}
use Rattle.records.specs.Answers.{IncludedLists}
use Rattle.records.specs.Records.{IncludedRecords}

abbrev pub IncludesRecords : ℕ → ℕ → ℕ → List ℕ → ℕ → ℕ → ℕ → SliceOf PbRecord → Slice → PbCompared → Type 0
IncludesRecords states letters finals rows x y room records sequence r =
    IncludedRecords (question_of states letters finals rows x y) room (before records) (before sequence) r (after records) (after sequence)

abbrev pub IncludesLists : ℕ → ℕ → ℕ → List ℕ → ℕ → ℕ → ℕ → Slice → Slice → Slice → Slice → Slice → PbCompared → Type 0
IncludesLists states letters finals rows x y room lefts rights parents taken sequence r =
    IncludedLists (call_of states letters finals rows x y room (lent_before lefts rights parents taken sequence)) r (lent_after lefts rights parents taken sequence)
