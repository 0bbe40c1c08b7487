-- The comparison of X+Y with Y over a list of records, read as the one-way question of X and Y, is what that is to answer and leave. Assumes nothing.
use mathlib.Core.Path.{◌≡◌, refl, sym, ap, ◌∙◌, subst}
use mathlib.Core.List.{List}
use Prim.Native.Nat.{ℕ, zero, suc, ◌≤◌}
use native.Mathlib.Omega.{arith}
use Rattle.walk.specs.Walk.{Question, kept_of, word_of}
use Rattle.walk.specs.Inclusion.{joined}
use Rattle.lent.specs.Lent.{lay}
use Rattle.std.specs.Prelude.{Ok, Err}
use Rattle.verdict.proofs.Refusals.{number_high}
use Rattle.comparison.specs.Answers.{Answered, answer_of}
use Rattle.comparison.specs.declared.Answer.{Answer}
use Rattle.comparison.specs.Inclusion.{answered_one_way}
use Rattle.comparison.proofs.Joining.{joined_test}
use Rattle.records.specs.declared.PbRecord.{PbRecord}
use Rattle.records.specs.declared.answers.PbCompared.{PbCompared}
use Rattle.records.specs.Answers.{compare_answer, inclusion_answer, one_way, as_within}
use Rattle.records.specs.Records.{call_on, lay_records, ComparedRecords, IncludedRecords}

-- every number but those of SAME and DIFFERENT stays
pub one_way_high : {n : ℕ} → 2 ≤ n → one_way n ≡ n
one_way_high {n = zero} h = absurd (omega (arith, h))
one_way_high {n = suc zero} h = absurd (omega (arith, h))
one_way_high {n = suc (suc n)} h = refl

pub as_within_lem : (a : Answered) → inclusion_answer (answered_one_way a) ≡ as_within (compare_answer a)
as_within_lem (Ok (Answer.Same kept examined)) = refl
as_within_lem (Ok (Answer.Different kept examined length)) = refl
as_within_lem (Ok (Answer.Full kept examined)) = refl
as_within_lem (Err why) = ap (λ (n : ℕ). record { answer = n; kept = 0; examined = 0; length = 0 }) (sym (one_way_high (omega (arith, number_high why))))

pub compared_within : {Q : Question} {room : ℕ} {records : List PbRecord} {sequence : List ℕ} {r : PbCompared} {later : List PbRecord} {word : List ℕ}
    → ComparedRecords (joined Q) room records sequence r later word → IncludedRecords Q room records sequence (as_within r) later word
compared_within {Q} {room} {records} {sequence} (ComparedRecords.refuses why e) =
    subst (λ (s : PbCompared). IncludedRecords Q room records sequence s records sequence) (as_within_lem (Err why))
    (IncludedRecords.refuses why (sym (joined_test (call_on Q room records sequence)) ∙ e))
compared_within {Q} {room} {records} {sequence} (ComparedRecords.walks {o} f w) =
    subst (λ (s : PbCompared). IncludedRecords Q room records sequence s (lay_records (kept_of o) records) (lay (word_of o) sequence)) (as_within_lem (answer_of o))
    (IncludedRecords.walks (sym (joined_test (call_on Q room records sequence)) ∙ f) w)

-- the same, by what the code's comparison answers
pub answered_within : {Q : Question} {room : ℕ} {records : List PbRecord} {sequence : List ℕ} (a : Answered) {later : List PbRecord} {word : List ℕ}
    → ComparedRecords (joined Q) room records sequence (compare_answer a) later word → IncludedRecords Q room records sequence (inclusion_answer (answered_one_way a)) later word
answered_within a c = rw (as_within_lem a) (compared_within c)
