-- What the one-way question answers, and what it leaves in all that it is lent. What it is asked and lent is a comparison's `Call`.
--   number_of, values_of   the scope's number of an answer (§7), and the numbers returned with it
--   AnsweredOneWay         what a call returns: an answer, or a refusal
--   inclusion_of, answered_one_way  the answer, by that of the comparison of X+Y with Y
--   Included               what a call answers and leaves: one result for every call (`within_determined`)
--   Includes               the same, of the code's question and tables, which are of the same slices
use Rattle.std.specs.Prelude.{◌≡◌, ℕ, Result, Ok, Err}
use Rattle.verdict.specs.declared.Refusal.{Refusal}
use Rattle.verdict.specs.Refusals.{number}
use Rattle.verdict.specs.Verdict.Verdict.{Fine, Against}
use Rattle.walk.specs.Walk.{Outcome, kept_of, word_of, Walk}
use Rattle.walk.specs.Inclusion.{joined}
use Rattle.pattern.specs.declared.Question.{Question as Asked}
use Rattle.comparison.specs.Answers.{Answered, Values, Lent, Call, compare_test, answer_of, lay_out, lent_in, call_in, SameTables}
use Rattle.comparison.specs.declared.Answer.{Answer}
use Rattle.comparison.specs.declared.Tables.{Tables}
use Rattle.comparison.specs.declared.inclusion.Inclusion.{Inclusion}

-- an answer to the one-way question, or a refusal
abbrev pub AnsweredOneWay : Type 0
AnsweredOneWay = Result Inclusion Refusal

-- 8 WITHIN, 9 NOT-WITHIN, 2 FULL, and the refusals by their own numbers
abbrev pub number_of : AnsweredOneWay → ℕ
number_of (Ok (Inclusion.Within kept examined)) = 8
number_of (Ok (Inclusion.NotWithin kept examined length)) = 9
number_of (Ok (Inclusion.Full kept examined)) = 2
number_of (Err why) = number why

-- length is 0 but for NOT-WITHIN, and every number is 0 on a refusal
abbrev pub values_of : AnsweredOneWay → Values
values_of (Ok (Inclusion.Within kept examined)) = record { kept = kept; examined = examined; length = 0 }
values_of (Ok (Inclusion.NotWithin kept examined length)) = record { kept = kept; examined = examined; length = length }
values_of (Ok (Inclusion.Full kept examined)) = record { kept = kept; examined = examined; length = 0 }
values_of (Err why) = record { kept = 0; examined = 0; length = 0 }

-- WITHIN for SAME, NOT-WITHIN for DIFFERENT
abbrev pub inclusion_of : Answer → Inclusion
inclusion_of (Answer.Same kept examined) = Inclusion.Within kept examined
inclusion_of (Answer.Different kept examined length) = Inclusion.NotWithin kept examined length
inclusion_of (Answer.Full kept examined) = Inclusion.Full kept examined

-- the same of what a comparison returns: a refusal stays
abbrev pub answered_one_way : Answered → AnsweredOneWay
answered_one_way (Ok answer) = Ok (inclusion_of answer)
answered_one_way (Err why) = Err why

-- a refusal is the comparison's, of X and Y as given, and changes nothing that is lent; any other answer is the outcome of the walk of X+Y and Y
pub data Included (c : Call) : AnsweredOneWay → Lent → Type 0 where
  refuses : {why : Refusal} → compare_test c ≡ Against (number why) → Included c (Err why) c.lent
  walks : {o : Outcome} → compare_test c ≡ Fine → Walk (joined c.question) c.room o
      → Included c (answered_one_way (answer_of o)) (lay_out (kept_of o) (word_of o) c.lent)

pub record Includes (q : Asked) (room : ℕ) (old : Tables) (answer : AnsweredOneWay) (new : Tables) : Type 0 where
  pub included : Included (call_in q room old) answer (lent_in new)
  pub same_tables : SameTables old new
