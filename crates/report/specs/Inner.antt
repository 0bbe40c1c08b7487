-- What only the inner functions cite.
--   pair_lines lefts rights   a line for each place of the two lists: left and right (`record_lines_lem`: those of the records whose sides they are)
--   answer_text answer ..    what is printed of the comparison's answer, by the lists that it left (`answer_text_lem`: the text of the walk's outcome)
--   Printable answer ..      what the lists, the sequence bytes and the page have to be for that
use Rattle.std.specs.Prelude.{List, [], ◌∷◌, ◌++◌, map, ℕ, ◌+◌, ◌≤◌, length, take, Ok}
use Rattle.lent.specs.declared.Page.{Page}
use Rattle.comparison.specs.declared.Answer.{Answer}
use Rattle.comparison.specs.Answers.{values_of}
use Rattle.text.specs.Text.{word, decimal, line}
use Rattle.events.specs.Events.{event_name}
use Rattle.report.specs.Report.{longest}

unfoldable pub pair_lines : List ℕ → List ℕ → List ℕ
pair_lines [] rights = []
pair_lines (l ∷ lefts) [] = []
pair_lines (l ∷ lefts) (r ∷ rights) = line (decimal l ∷ decimal r ∷ []) ++ pair_lines lefts rights

unfoldable pub answer_text : Answer → List ℕ → List ℕ → List ℕ → List ℕ
answer_text (Answer.Same kept examined) lefts rights sequence =
    line (word "SAME" ∷ decimal kept ∷ decimal examined ∷ []) ++ pair_lines (take kept lefts) (take kept rights)
answer_text (Answer.Different kept examined length) lefts rights sequence =
    line (word "DIFFERENT" ∷ decimal kept ∷ decimal examined ∷ decimal length ∷ []) ++ line (map event_name (take length sequence))
answer_text (Answer.Full kept examined) lefts rights sequence = line (word "FULL" ∷ decimal kept ∷ decimal examined ∷ [])

-- lists and sequence bytes that have what the answer names, and a page with room for the longest text of as many records
pub record Printable (answer : Answer) (lefts rights sequence : List ℕ) (page : Page) : Type 0 where
  pub lefts_there : (values_of (Ok answer)).kept ≤ length lefts
  pub rights_there : (values_of (Ok answer)).kept ≤ length rights
  pub sequence_there : (values_of (Ok answer)).length ≤ length sequence
  pub short : (values_of (Ok answer)).length ≤ (values_of (Ok answer)).kept
  pub text_fits : page.at + longest (values_of (Ok answer)).kept ≤ length page.out.now
