-- What the export for two texts answers, and what it leaves in the rows lent: the promise of `expressions`, as the host reads it.
use Rattle.std.specs.Prelude.{◌≡◌, List, ℕ, Ok, Err}
use Rattle.verdict.specs.Refusals.{number}
use Rattle.expressions.specs.Answers.{Answer}
use Rattle.expressions.specs.Languages.{Answered}
use Rattle.pressbadger.specs.declared.texts.PbExpressed.{PbExpressed}

-- the scope's number and values of what two texts become: DONE has place and text 0, and a refusal returns 0 for all but its place and its text
abbrev pub expressed_answer : Answer → PbExpressed
expressed_answer (Ok p) = record { answer = 7; states = p.states; letters = 32; finals = p.finals; x = p.x; y = p.y; place = 0; text = 0 }
expressed_answer (Err f) =
    record { answer = number f.fault.why; states = 0; letters = 0; finals = 0; x = 0; y = 0; place = f.fault.place; text = f.text }

pub record ExpressedTexts (one two old : List ℕ) (r : PbExpressed) (new : List ℕ) : Type 0 where
  pub answer : Answer
  pub leaves : Answered one two old new answer
  pub answers : r ≡ expressed_answer answer
