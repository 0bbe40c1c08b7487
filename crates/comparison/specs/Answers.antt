-- What the comparison answers, and what it leaves in all that it is lent.
--   Answered             what a call returns: an answer, or a refusal
--   number_of, values_of   the scope's number of an answer (§7), and the numbers returned with it
--   Lent, Call           all that the host lends; the question, the room and what is lent
--   room_test            13 BAD-ROOM; compare_test: all refusals in the scope's order (`compare_fine` says when there is none)
--   outcome_answer, answer_of
--                        the answer of an outcome, and the same as a call returns it
--   lay_out              its records and its sequence laid over what is lent
--   Compared             what a call answers and leaves: one result for every call (`compare_determined`)
--   question_in, lent_in, call_in
--                        these, of the code's question and of the tables that it is lent
--   Compares             what a call answers and leaves, of its tables when it begins, and when it ends; they are of the same slices
use Rattle.std.specs.Prelude.{◌≡◌, List, [], ◌∷◌, ℕ, length, leb, Result, Ok, Err}
use Rattle.verdict.specs.declared.Refusal.{Refusal}
use Rattle.verdict.specs.Refusals.{number}
use Rattle.verdict.specs.Verdict.{Verdict}
use Rattle.verdict.specs.Verdict.Verdict.{Fine, Against}
use Rattle.verdict.specs.Tests.{need, in_order, each}
use Rattle.lent.specs.Lent.{lay}
use Rattle.sets.specs.Rooms.{max_room}
use Rattle.pattern.specs.Tests.{set_test, shape_test, masks_test}
use Rattle.walk.specs.Walk.{Question, question_of, Record, Outcome, kept_of, word_of, Walk}
use Rattle.walk.specs.Walk.Outcome.{Same, Different, Full}
use Rattle.walk.specs.Columns.{Columns, lengths, lay_columns}
use Rattle.pattern.specs.declared.Question.{Question as Asked}
use Rattle.comparison.specs.declared.Answer.{Answer}
use Rattle.comparison.specs.declared.Tables.{Tables}

-- an answer of the walk, or a refusal
abbrev pub Answered : Type 0
Answered = Result Answer Refusal

-- 0 SAME, 1 DIFFERENT, 2 FULL, and the refusals by their own numbers
abbrev pub number_of : Answered → ℕ
number_of (Ok (Answer.Same kept examined)) = 0
number_of (Ok (Answer.Different kept examined length)) = 1
number_of (Ok (Answer.Full kept examined)) = 2
number_of (Err why) = number why

pub record Values : Type 0 where
  pub kept : ℕ
  pub examined : ℕ
  pub length : ℕ

-- length is 0 but for DIFFERENT, and every number is 0 on a refusal
abbrev pub values_of : Answered → Values
values_of (Ok (Answer.Same kept examined)) = record { kept = kept; examined = examined; length = 0 }
values_of (Ok (Answer.Different kept examined length)) = record { kept = kept; examined = examined; length = length }
values_of (Ok (Answer.Full kept examined)) = record { kept = kept; examined = examined; length = 0 }
values_of (Err why) = record { kept = 0; examined = 0; length = 0 }

-- the list of records, column by column, and the sequence bytes
pub record Lent : Type 0 where
  pub columns : Columns
  pub sequence : List ℕ

abbrev pub lent_of : List ℕ → List ℕ → List ℕ → List ℕ → List ℕ → Lent
lent_of lefts rights parents taken sequence =
    record { columns = record { lefts = lefts; rights = rights; parents = parents; taken = taken }; sequence = sequence }

pub record Call : Type 0 where
  pub question : Question
  pub room : ℕ
  pub lent : Lent

abbrev pub call_of : ℕ → ℕ → ℕ → List ℕ → ℕ → ℕ → ℕ → Lent → Call
call_of states letters finals rows x y room lent = record { question = question_of states letters finals rows x y; room = room; lent = lent }

-- 13 BAD-ROOM: the room is at most the largest, and neither the sequence bytes nor the list are shorter than it
unfoldable pub room_test : ℕ → Lent → Verdict
room_test room lent = each (λ most. need (leb room most) 13) (max_room ∷ length lent.sequence ∷ lengths lent.columns)

-- 10, 11, 13, 12
unfoldable pub compare_test : Call → Verdict
compare_test c =
    let P = c.question.pattern in
    in_order (shape_test P ∷ room_test c.room c.lent ∷ masks_test P ∷ set_test P.states c.question.left ∷ set_test P.states c.question.right ∷ [])

-- the numbers of an outcome
abbrev pub outcome_answer : Outcome → Answer
outcome_answer (Same kept examined) = Answer.Same (length kept) examined
outcome_answer (Different kept examined word) = Answer.Different (length kept) examined (length word)
outcome_answer (Full kept examined) = Answer.Full (length kept) examined

abbrev pub answer_of : Outcome → Answered
answer_of o = Ok (outcome_answer o)

-- the records and the sequence stand in the first places, and everything not named as written is unchanged
abbrev pub lay_out : List Record → List ℕ → Lent → Lent
lay_out kept word old = record { columns = lay_columns kept old.columns; sequence = lay word old.sequence }

-- a refusal changes nothing that is lent; any other answer is the walk's outcome
pub data Compared (c : Call) : Answered → Lent → Type 0 where
  refuses : {why : Refusal} → compare_test c ≡ Against (number why) → Compared c (Err why) c.lent
  walks : {o : Outcome} → compare_test c ≡ Fine → Walk c.question c.room o → Compared c (answer_of o) (lay_out (kept_of o) (word_of o) c.lent)

-- ---- of the code's question and tables

abbrev pub question_in : Asked → Question
question_in q = question_of q.pattern.states q.pattern.letters q.pattern.finals q.pattern.rows.now q.x q.y

abbrev pub lent_in : Tables → Lent
lent_in t = lent_of t.lefts.now t.rights.now t.parents.now t.taken.now t.sequence.now

abbrev pub call_in : Asked → ℕ → Tables → Call
call_in q room t = record { question = question_in q; room = room; lent = lent_in t }

-- the tables are of the same slices
pub record SameTables (old new : Tables) : Type 0 where
  pub lefts : new.lefts.ghost_name ≡ old.lefts.ghost_name
  pub rights : new.rights.ghost_name ≡ old.rights.ghost_name
  pub parents : new.parents.ghost_name ≡ old.parents.ghost_name
  pub taken : new.taken.ghost_name ≡ old.taken.ghost_name
  pub sequence : new.sequence.ghost_name ≡ old.sequence.ghost_name

pub record Compares (q : Asked) (room : ℕ) (old : Tables) (answer : Answered) (new : Tables) : Type 0 where
  pub compared : Compared (call_in q room old) answer (lent_in new)
  pub same_tables : SameTables old new
