-- The text of an answer, in its parts; and of the answer to a question that is not refused: the text of the walk's outcome. Assumes nothing.
use mathlib.Core.Path.{◌≡◌, refl, ap}
use mathlib.Core.List.{List, [], ◌∷◌, ◌++◌, map}
use Prim.Native.Nat.{ℕ}
use lib.ListN.{length, take, length-map}
use Rattle.comparison.specs.declared.Answer.{Answer}
use Rattle.walk.specs.Walk.{Record, lefts_of, rights_of, Outcome, kept_of, word_of}
use Rattle.walk.specs.Walk.Outcome.{Same, Different, Full}
use Rattle.comparison.specs.Answers.{Lent, outcome_answer, lay_out}
use Rattle.lent.proofs.Laying.{take_lay}
use Rattle.lent.proofs.Filling.{Splits}
use Rattle.text.specs.Text.{word, decimal, line}
use Rattle.events.specs.Events.{event_name}
use Rattle.report.specs.Report.{record_lines, text_of}
use Rattle.report.specs.Inner.{pair_lines, answer_text}

-- ---- in the two parts that the code puts

module _ {answer : Answer} (lefts rights sequence : List ℕ) where
  pub answer_same : {kept examined : ℕ} → answer ≡ Answer.Same kept examined
      → Splits (answer_text answer lefts rights sequence) (line (word "SAME" ∷ decimal kept ∷ decimal examined ∷ [])) (pair_lines (take kept lefts) (take kept rights))
  unfolding answer_text
  answer_same q = record { parts = rw q }

  pub answer_different : {kept examined length : ℕ} → answer ≡ Answer.Different kept examined length
      → Splits (answer_text answer lefts rights sequence) (line (word "DIFFERENT" ∷ decimal kept ∷ decimal examined ∷ decimal length ∷ []))
      (line (map event_name (take length sequence)))
  unfolding answer_text
  answer_different q = record { parts = rw q }

-- ---- what was laid is what was kept

pub record_lines_lem : (kept : List Record) → pair_lines (lefts_of kept) (rights_of kept) ≡ record_lines kept
unfolding pair_lines record_lines
record_lines_lem [] = refl
record_lines_lem (r ∷ kept) = ap (λ (l : List ℕ). line (decimal r.left ∷ decimal r.right ∷ []) ++ l) (record_lines_lem kept)

pub answer_text_lem : (o : Outcome) (old : Lent) → let new = lay_out (kept_of o) (word_of o) old in answer_text (outcome_answer o) new.columns.lefts new.columns.rights new.sequence ≡ text_of o
unfolding answer_text text_of
answer_text_lem (Same kept examined) old =
    rw (
      take_lay (lefts_of kept) old.columns.lefts (length kept) (length-map kept (λ (r : Record). r.left)),
      take_lay (rights_of kept) old.columns.rights (length kept) (length-map kept (λ (r : Record). r.right)),
      record_lines_lem kept,
    )
answer_text_lem (Different kept examined sequence) old = rw (take_lay sequence old.sequence (length sequence) refl)
answer_text_lem (Full kept examined) old = refl
