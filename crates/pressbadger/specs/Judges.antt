-- What `pb_judge` answers: the scope's number of what judging answers (§7).
use Rattle.std.specs.Prelude.{◌≡◌, List, ℕ}
use Rattle.pattern.specs.Pattern.{pattern_of}
use Rattle.pattern.specs.Judge.{Judged, judged, number_of}
use Rattle.pressbadger.specs.declared.PbJudged.{PbJudged}

abbrev pub judge_answer : Judged → PbJudged
judge_answer a = record { answer = number_of a }

abbrev pub Judges : ℕ → ℕ → ℕ → List ℕ → ℕ → List ℕ → PbJudged → Type 0
Judges states letters finals rows set sequence r = r ≡ judge_answer (judged (pattern_of states letters finals rows) set sequence)
