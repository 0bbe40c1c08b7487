-- The scope's questions with known answers (§11), as a call answers them: the rows of walk's table.
use Rattle.std.specs.Prelude.{◌≡◌, List, [], ◌∷◌, ℕ}
use Rattle.walk.specs.Walk.{Question, Record, Outcome, kept_of, word_of}
use Rattle.walk.specs.Known.{Row}
use Rattle.walk.specs.Known.Row.{asks, closes}
use Rattle.comparison.specs.Answers.{Answered, Lent, answer_of, lay_out, Compared}
use Rattle.comparison.specs.Meaning.{Roomy}

-- answer, values and memory, whatever is lent for the room
pub record Gives (Q : Question) (room : ℕ) (o : Outcome) : Type 0 where
  pub all : (lent : Lent) → Roomy room lent → (a : Answered) (later : Lent) → Compared (record { question = Q; room = room; lent = lent }) a later
      → (a ≡ answer_of o) × (later ≡ lay_out (kept_of o) (word_of o) lent)

-- each row that asks gives its outcome; a row that closes is no call
pub data KnownCalls : List Row → Type 0 where
  none : KnownCalls []
  answers : {Q : Question} {room : ℕ} {o : Outcome} {rows : List Row} → Gives Q room o → KnownCalls rows → KnownCalls (asks Q room o ∷ rows)
  passes : {pairs : List Record} {set closed : ℕ} {rows : List Row} → KnownCalls rows → KnownCalls (closes pairs set closed ∷ rows)
