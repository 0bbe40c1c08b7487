-- The answers as a host reads them: the scope's number of each (§7), and the numbers returned with it.
--   compare_answer, inclusion_answer, check_answer
--                                an answer as it is returned to a host
--   as_within                    the answer to the one-way question, by that of the comparison of X+Y with Y
--   ComparedLists                what the comparison over lent lists returns and leaves: the promise of `comparison`, as a host reads it
--   IncludedLists                the same of the one-way question
--   CheckedOffer                 what the check returns: the promise of `evidence`, as a host reads it
use Rattle.std.specs.Prelude.{◌≡◌, ℕ, zero, suc, Result}
use Rattle.verdict.specs.declared.Refusal.{Refusal}
use Rattle.comparison.specs.Answers as Comparison
use Rattle.comparison.specs.Answers.{Answered, Call, Lent, Compared, values_of}
use Rattle.comparison.specs.Inclusion as Inclusion
use Rattle.comparison.specs.Inclusion.{AnsweredOneWay, Included}
use Rattle.evidence.specs.Evidence as Evidence
use Rattle.evidence.specs.Evidence.{Offer, Checked, place_of}
use Rattle.evidence.specs.declared.Answer.{Answer}
use Rattle.records.specs.declared.answers.PbCompared.{PbCompared}
use Rattle.records.specs.declared.answers.PbChecked.{PbChecked}

abbrev pub compare_answer : Answered → PbCompared
compare_answer a = record { answer = Comparison.number_of a; kept = (values_of a).kept; examined = (values_of a).examined; length = (values_of a).length }

abbrev pub inclusion_answer : AnsweredOneWay → PbCompared
inclusion_answer a = record { answer = Inclusion.number_of a; kept = (Inclusion.values_of a).kept; examined = (Inclusion.values_of a).examined; length = (Inclusion.values_of a).length }

-- WITHIN for SAME, NOT-WITHIN for DIFFERENT, and the same counts
abbrev pub one_way : ℕ → ℕ
one_way zero = 8
one_way (suc zero) = 9
one_way (suc (suc n)) = suc (suc n)

abbrev pub as_within : PbCompared → PbCompared
as_within s = record { answer = one_way s.answer; kept = s.kept; examined = s.examined; length = s.length }

abbrev pub check_answer : Result Answer Refusal → PbChecked
check_answer a = record { answer = Evidence.number_of a; place = place_of a }

pub record ComparedLists (c : Call) (r : PbCompared) (later : Lent) : Type 0 where
  pub answer : Answered
  pub compared : Compared c answer later
  pub answers : r ≡ compare_answer answer

pub record IncludedLists (c : Call) (r : PbCompared) (later : Lent) : Type 0 where
  pub answer : AnsweredOneWay
  pub included : Included c answer later
  pub answers : r ≡ inclusion_answer answer

pub record CheckedOffer (o : Offer) (r : PbChecked) : Type 0 where
  pub answer : Result Answer Refusal
  pub checked : Checked o answer
  pub answers : r ≡ check_answer answer
