-- What only the inner functions cite.
--   answer_text answer   what is printed of the check's answer
use Rattle.std.specs.Prelude.{List, ℕ}
use Rattle.evidence.specs.declared.Answer.{Answer}
use Rattle.evidence.specs.declared.Answer.TheVariants.{Proved, NotProved}
use Rattle.checking.specs.Checking.{proved_text, not_proved_text}

abbrev pub answer_text : Answer → List ℕ
answer_text Proved = proved_text
answer_text (NotProved place) = not_proved_text place
