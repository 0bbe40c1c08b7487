-- Every export is determined: two results that its contract allows on one input are equal, answer, numbers and the later content of all that was lent.
-- (`pb_judge` and `pb_version` are equations, so for them it is the contract itself.) Assumes nothing.
use mathlib.Core.Path.{◌≡◌, refl, sym, ap, ◌∙◌}
use mathlib.Core.List.{List}
use Prim.Native.Nat.{ℕ}
use Rattle.pattern.specs.Pattern.{Pattern}
use Rattle.walk.specs.Walk.{Question, Outcome, kept_of, word_of}
use Rattle.lent.specs.Lent.{lay}
use Rattle.comparison.specs.Answers.{Lent, Call, answer_of, Compared}
use Rattle.walk.proofs.WalkUnique.{walk_unique}
use Rattle.verdict.proofs.Ordered.{apart}
use Rattle.comparison.specs.Inclusion.{answered_one_way, Included}
use Rattle.comparison.proofs.CompareDetermined.{compare_determined}
use Rattle.comparison.proofs.WithinDetermined.{within_determined}
use Rattle.evidence.specs.Evidence.{Offer}
use Rattle.evidence.proofs.Determined.{check_determined}
use Rattle.patternfile.proofs.Determined.{reader_determined, writer_determined}
use Rattle.expressions.proofs.Determined.{answer_determined}
use Rattle.records.specs.declared.PbRecord.{PbRecord}
use Rattle.records.specs.declared.answers.PbChecked.{PbChecked}
use Rattle.records.specs.declared.answers.PbCompared.{PbCompared}
use Rattle.records.specs.Answers.{check_answer, CheckedOffer, compare_answer, ComparedLists, inclusion_answer, IncludedLists}
use Rattle.records.specs.Records.{lay_records, ComparedRecords, IncludedRecords}
use Rattle.records.specs.Records.ComparedRecords.{refuses, walks}
use Rattle.pressbadger.specs.declared.files.PbPattern.{PbPattern}
use Rattle.pressbadger.specs.declared.files.PbWritten.{PbWritten}
use Rattle.pressbadger.specs.declared.texts.PbExpressed.{PbExpressed}
use Rattle.pressbadger.specs.Texts.{expressed_answer, ExpressedTexts}
use Rattle.pressbadger.specs.Files.{pattern_answer, ReadPattern, written_answer, WrittenPattern}

-- `pb_check`, and `pb_check_records` at the sides of the records
pub pb_check_determined : {o : Offer} {r s : PbChecked} → CheckedOffer o r → CheckedOffer o s → r ≡ s
pb_check_determined a b = a.answers ∙ ap check_answer (check_determined a.checked b.checked) ∙ sym b.answers

pub pb_read_determined : {bytes old : List ℕ} {r s : PbPattern} {new new' : List ℕ} → ReadPattern bytes old r new → ReadPattern bytes old s new' → (r ≡ s) × (new ≡ new')
pb_read_determined {bytes} {old} {r} {s} {new} {new'} a b =
    let same = reader_determined bytes old a.read b.read new new' a.leaves b.leaves in
    (a.answers ∙ ap pattern_answer same.0 ∙ sym b.answers, same.1)

pub pb_write_determined : {P : Pattern} {x y : ℕ} {old : List ℕ} {r s : PbWritten} {new new' : List ℕ} → WrittenPattern P x y old r new → WrittenPattern P x y old s new' → (r ≡ s) × (new ≡ new')
pb_write_determined {P} {x} {y} {old} {r} {s} {new} {new'} a b =
    let same = writer_determined P x y old a.written b.written new new' a.leaves b.leaves in
    (a.answers ∙ ap written_answer same.0 ∙ sym b.answers, same.1)

pub pb_expressions_determined : {one two old : List ℕ} {r s : PbExpressed} {new new' : List ℕ}
    → ExpressedTexts one two old r new → ExpressedTexts one two old s new' → (r ≡ s) × (new ≡ new')
pb_expressions_determined {one} {two} {old} {r} {s} {new} {new'} a b =
    let same = answer_determined one two old new new' a.answer b.answer a.leaves b.leaves in
    (a.answers ∙ ap expressed_answer same.0 ∙ sym b.answers, same.1)

pub pb_compare_lists_determined : {c : Call} {r s : PbCompared} {later later' : Lent} → ComparedLists c r later → ComparedLists c s later' → (r ≡ s) × (later ≡ later')
pb_compare_lists_determined a b =
    let same = compare_determined a.compared b.compared in
    (a.answers ∙ ap compare_answer same.0 ∙ sym b.answers, same.1)

-- `pb_compare`, and `pb_compare_default` at the default room
pub pb_compare_determined : {Q : Question} {room : ℕ} {records : List PbRecord} {sequence : List ℕ} {r s : PbCompared} {later later' : List PbRecord} {word word' : List ℕ}
    → ComparedRecords Q room records sequence r later word → ComparedRecords Q room records sequence s later' word' → (r ≡ s) × (later ≡ later') × (word ≡ word')
pb_compare_determined (refuses why e) (refuses why' d) = (ap compare_answer (compare_determined (Compared.refuses e) (Compared.refuses d)).0, refl, refl)
pb_compare_determined (refuses why e) (walks d w) = apart d e
pb_compare_determined (walks e w) (refuses why d) = apart e d
pb_compare_determined {Q} {room} {records} {sequence} (walks e w) (walks d v) =
    let same = walk_unique w v in (
      ap (λ (o : Outcome). compare_answer (answer_of o)) same,
      ap (λ (o : Outcome). lay_records (kept_of o) records) same,
      ap (λ (o : Outcome). lay (word_of o) sequence) same,
    )

pub pb_within_lists_determined : {c : Call} {r s : PbCompared} {later later' : Lent} → IncludedLists c r later → IncludedLists c s later' → (r ≡ s) × (later ≡ later')
pb_within_lists_determined a b =
    let same = within_determined a.included b.included in
    (a.answers ∙ ap inclusion_answer same.0 ∙ sym b.answers, same.1)

pub pb_within_determined : {Q : Question} {room : ℕ} {records : List PbRecord} {sequence : List ℕ} {r s : PbCompared} {later later' : List PbRecord} {word word' : List ℕ}
    → IncludedRecords Q room records sequence r later word → IncludedRecords Q room records sequence s later' word' → (r ≡ s) × (later ≡ later') × (word ≡ word')
pb_within_determined (IncludedRecords.refuses why e) (IncludedRecords.refuses why' d) = (ap inclusion_answer (within_determined (Included.refuses e) (Included.refuses d)).0, refl, refl)
pb_within_determined (IncludedRecords.refuses why e) (IncludedRecords.walks d w) = apart d e
pb_within_determined (IncludedRecords.walks e w) (IncludedRecords.refuses why d) = apart e d
pb_within_determined {Q} {room} {records} {sequence} (IncludedRecords.walks e w) (IncludedRecords.walks d v) =
    let same = walk_unique w v in (
      ap (λ (o : Outcome). inclusion_answer (answered_one_way (answer_of o))) same,
      ap (λ (o : Outcome). lay_records (kept_of o) records) same,
      ap (λ (o : Outcome). lay (word_of o) sequence) same,
    )
