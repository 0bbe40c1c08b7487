-- What the check of evidence answers: for two lists of numbers, and for the two sides of a list of records.
use Rattle.std.specs.Prelude.{List, ℕ}
use Rattle.walk.specs.Walk.{question_of}
use Rattle.evidence.specs.Evidence.{offer_of}
use Rattle.records.specs.declared.PbRecord.{PbRecord}
use Rattle.records.specs.declared.answers.PbChecked.{PbChecked}
use Rattle.records.specs.Answers.{CheckedOffer}
use Rattle.records.specs.Records.{columns_in}
use Rattle.records.specs.Offers.{offer_for}

abbrev pub ChecksLists : ℕ → ℕ → ℕ → List ℕ → ℕ → ℕ → List ℕ → List ℕ → PbChecked → Type 0
ChecksLists states letters finals rows x y lefts rights r = CheckedOffer (offer_of states letters finals rows x y lefts rights) r

abbrev pub ChecksRecords : ℕ → ℕ → ℕ → List ℕ → ℕ → ℕ → List PbRecord → PbChecked → Type 0
ChecksRecords states letters finals rows x y records r = CheckedOffer (offer_for (question_of states letters finals rows x y) (columns_in records)) r
