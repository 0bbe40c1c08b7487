-- From what the reader and the comparison ensure to what is answered: a file that was read is never refused by the comparison. Assumes nothing.
use mathlib.Core.Logic.{◌⊎◌, inl, inr}
use mathlib.Core.Path.{◌≡◌, refl, sym, subst}
use mathlib.Core.List.{List}
use Prim.Native.Nat.{ℕ, ◌*◌, ◌≤◌}
use lib.ListN.{length, take}
use Rattle.verdict.specs.Verdict.Verdict.{Fine}
use Rattle.verdict.proofs.Ordered.{apart}
use Rattle.lent.specs.Lent.{lay}
use Rattle.numbers.specs.Numbers.{AreBytes}
use Rattle.std.specs.Prelude.{Result, Ok, Err}
use Rattle.verdict.specs.declared.Refusal.{Refusal}
use Rattle.verdict.specs.declared.Refusal.TheVariants.{BadSize, BadSet, NoRoom, Cut, Padded, Tail, TooBig}
use Rattle.verdict.specs.declared.Fault.{Fault}
use Rattle.verdict.specs.Refusals.{number}
use Rattle.patternfile.specs.declared.PatternNumbers.{PatternNumbers}
use Rattle.patternfile.specs.Reader.{with_rows, ReadDone, ReadRefused}
use Rattle.patternfile.specs.Refusals.{RefusedAt}
use Rattle.patternfile.specs.Refusals.RefusedAt.{bad_states, bad_letters, no_room, bad_set, cut, padded, tail, too_big}
use Rattle.patternfile.proofs.Places.{refused_there}
use Rattle.patternfile.proofs.Contents.{accepted_valid}
use Rattle.patternfile.proofs.RoundTrip.{left_rows}
use Rattle.pattern.specs.Pattern.{Pattern}
use Rattle.walk.specs.Walk.{Question, kept_of, word_of}
use Rattle.walk.proofs.WalkEnds.{walk_ends}
use Rattle.comparison.specs.declared.Answer.{Answer}
use Rattle.comparison.specs.Answers.{number_of, Lent, compare_test, answer_of, lay_out, Compared}
use Rattle.comparison.specs.Meaning.{Roomy, Honest}
use Rattle.comparison.proofs.Asking.{compare_fine}
use Rattle.comparison.proofs.CompareHonest.{compare_valid, compare_honest}
use Rattle.asking.specs.Asking.{Asked, row_room, Asks, Refuses, call_for, Answers}
use Rattle.asking.specs.Asking.Answers.{refuses, answers}
use Rattle.asking.proofs.Questions.{asks_proper, asks_or_refuses}

-- ---- the comparison of a question that was asked

module _ {input : List ℕ} {Q : Question} (are : AreBytes input) (asks : Asks input Q) {room : ℕ} {lent : Lent} (roomy : Roomy room lent) where
  pub never_refused : compare_test (call_for Q room lent) ≡ Fine
  never_refused = (compare_fine (call_for Q room lent)).1 (asks_proper are asks, roomy)

  -- so its answer is the walk's outcome
  pub answered : {answer : Answer} {l : Lent} → Compared (call_for Q room lent) (Ok answer) l → (rows : List ℕ)
      → Answers room input rows lent (Ok answer) (lay Q.pattern.rows rows) l
  answered (Compared.walks fine walk) rows = answers asks walk

-- ---- what an answer means

pub answers_honest : {room : ℕ} {input rows : List ℕ} {lent : Lent} {answer : Answer} {rows' : List ℕ} {l : Lent} → AreBytes input → Roomy room lent
    → Answers room input rows lent (Ok answer) rows' l → (Q : Question) × Asks input Q × (number_of (Ok answer) ≤ 2) × Honest (call_for Q room lent) (Ok answer) l
answers_honest {room} {lent = lent} are roomy (answers {Q} {o} a w) =
    let compared : Compared (call_for Q room lent) (answer_of o) (lay_out (kept_of o) (word_of o) lent) = Compared.walks (never_refused are a roomy) w in
    (Q, a, compare_valid (asks_proper are a, roomy) compared, compare_honest compared)

-- ---- every input has its answer

-- the code names the refusal of every input that is refused
refusal_named : {room : ℕ} {s : List ℕ} {w place : ℕ} → RefusedAt room s w place → (why : Refusal) × (number why ≡ w)
refusal_named (bad_states q h) = (BadSize, refl)
refusal_named (bad_letters q h) = (BadSize, refl)
refusal_named (no_room p q h) = (NoRoom, refl)
refusal_named (bad_set p q h) = (BadSet, refl)
refusal_named (cut h) = (Cut, refl)
refusal_named (padded h) = (Padded, refl)
refusal_named (tail P x y l f) = (Tail, refl)
refusal_named (too_big h) = (TooBig, refl)

pub always_answered : (room : ℕ) (input rows : List ℕ) (lent : Lent) → AreBytes input → (a : Asked) × (rows' : List ℕ) × (l : Lent) × Answers room input rows lent a rows' l
always_answered room input rows lent are = pick (asks_or_refuses input are)
  where
    pick : ((Q : Question) × Asks input Q) ⊎ ((number : ℕ) × (place : ℕ) × Refuses input number place)
        → (a : Asked) × (rows' : List ℕ) × (l : Lent) × Answers room input rows lent a rows' l
    pick (inl (Q, a)) = let (o, w) = walk_ends Q (asks_proper are a) room in (_, _, _, answers a w)
    pick (inr (w, place, r)) = let (why, z) = refusal_named (refused_there are r) in (_, _, _, refuses {fault = record { why = why; place = place }} (rw (← z) at r))

-- ---- a file that was refused

pub refused_answers : (input rows new : List ℕ) {fault : Fault} → length rows ≡ row_room → ReadRefused input rows (number fault.why) fault.place new
    → (room : ℕ) (lent : Lent) → Answers room input rows lent (Err fault) new lent
refused_answers input rows new {fault} size told room lent =
    let refused : Refuses input (number fault.why) fault.place = rw (← size) told.fault in
    rw told.unchanged (refuses refused)

-- ---- a file that was read

pub record Accepted (input rows : List ℕ) (f : PatternNumbers) (new : List ℕ) : Type 0 where
  pub bytes : AreBytes input
  pub size : length rows ≡ row_room
  pub done : ReadDone input rows f new

module _ {input rows : List ℕ} {f : PatternNumbers} {new : List ℕ} (t : Accepted input rows f new) where
  pub few_rows : f.states * f.letters ≤ length rows
  few_rows = (accepted_valid t.bytes t.done.file).enough

  -- the rows are those of the file
  rows_read : take (f.states * f.letters) new ≡ t.done.rows
  rows_read = left_rows t.bytes t.done

  abbrev pattern : Pattern
  pattern = with_rows f (take (f.states * f.letters) new)

  abbrev question : Pattern → Question
  question P = record { pattern = P; left = f.x; right = f.y }

  asks : Asks input (question pattern)
  asks = rw (rows_read, ← t.size) t.done.file

  rows_laid : new ≡ lay (take (f.states * f.letters) new) rows
  rows_laid = rw rows_read t.done.written

  -- compared in the room that was asked for
  module _ {P : Pattern} (found : P ≡ pattern) {room asked : ℕ} (same : asked ≡ room) {lent : Lent} (roomy : Roomy room lent) where
    compared_here : {a : Result Answer Refusal} {l : Lent} → Compared (call_for (question P) asked lent) a l → Compared (call_for (question pattern) room lent) a l
    compared_here {a} {l} compared =
        subst (λ (m : ℕ). Compared (call_for (question pattern) m lent) a l) same (subst (λ (P : Pattern). Compared (call_for (question P) asked lent) a l) found compared)

    pub accepted_answers : {answer : Answer} {l : Lent} → Compared (call_for (question P) asked lent) (Ok answer) l → Answers room input rows lent (Ok answer) new l
    accepted_answers {answer} {l} compared =
        subst (λ (s : List ℕ). Answers room input rows lent (Ok answer) s l) (sym rows_laid) (answered t.bytes asks roomy (compared_here compared) rows)

    -- the comparison refuses no file that was read
    pub accepted_compared : {why : Refusal} {l : Lent} → Compared (call_for (question P) asked lent) (Err why) l → ⊥
    accepted_compared compared = refused_never (compared_here compared)
      where
        refused_never : {why : Refusal} {l : Lent} → Compared (call_for (question pattern) room lent) (Err why) l → ⊥
        refused_never (Compared.refuses against) = apart (never_refused t.bytes asks roomy) against
