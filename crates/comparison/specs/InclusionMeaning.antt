-- What the theorems over the one-way question speak of.
--   IsRefused         the answer is a refusal
--   HonestInclusion   what an answer means, by the numbers that a host sees (the scope, §13.3)
--   QuietInclusion    what a refusal leaves: every number 0, all that is lent as it was
use Rattle.std.specs.Prelude.{◌≡◌, ◌↔◌, ℕ, ◌+◌, ◌*◌, ◌≤◌, take, Ok, Err}
use Rattle.verdict.specs.Verdict.Verdict.{Against}
use Rattle.verdict.specs.Lines.{Applies}
use Rattle.pattern.specs.Inclusion.{LanguageWithin, Escapes}
use Rattle.walk.specs.Meaning.{Outgrows}
use Rattle.walk.specs.Inclusion.{joined}
use Rattle.comparison.specs.Answers.{Lent, Call, compare_test}
use Rattle.comparison.specs.Meaning.{Comparable, compare_lines}
use Rattle.comparison.specs.Inclusion.{AnsweredOneWay, number_of, values_of}
use Rattle.comparison.specs.declared.inclusion.Inclusion.{Inclusion}

abbrev pub IsRefused : AnsweredOneWay → Type 0
IsRefused (Ok (Inclusion.Within kept examined)) = ⊥
IsRefused (Ok (Inclusion.NotWithin kept examined length)) = ⊥
IsRefused (Ok (Inclusion.Full kept examined)) = ⊥
IsRefused (Err why) = Unit {0}

-- 8 WITHIN, 9 NOT-WITHIN; 2 FULL exactly where nothing is refused and the walk of X+Y and Y has to keep one more pair than the room allows; a
-- refusal, 10 and up, exactly where a line of the comparison of X and Y applies, by its number
pub record HonestInclusion (c : Call) (a : AnsweredOneWay) (later : Lent) : Type 0 where
  pub within : number_of a ≡ 8 → LanguageWithin c.question.pattern c.question.left c.question.right
  pub all_examined : number_of a ≡ 8 → (values_of a).examined ≡ 1 + c.question.pattern.letters * (values_of a).kept
  pub not_within : number_of a ≡ 9 → Escapes c.question.pattern c.question.left c.question.right (take (values_of a).length later.sequence)
  pub full : (number_of a ≡ 2) ↔ (Comparable c × Outgrows (joined c.question) c.room)
  pub room_kept : number_of a ≡ 2 → (values_of a).kept ≡ c.room
  pub refused : IsRefused a ↔ (Comparable c → ⊥)
  pub refused_by : (number : ℕ) → (IsRefused a × (number_of a ≡ number)) ↔ Applies (compare_lines c) number
  pub high : IsRefused a → 10 ≤ number_of a
  pub kept_fits : (values_of a).kept ≤ c.room
  pub examined_fits : (values_of a).examined ≤ 1 + c.question.pattern.letters * (values_of a).kept
  pub length_fits : (values_of a).length ≤ (values_of a).kept

pub record QuietInclusion (c : Call) (a : AnsweredOneWay) (later : Lent) : Type 0 where
  pub reason : compare_test c ≡ Against (number_of a)
  pub kept : (values_of a).kept ≡ 0
  pub examined : (values_of a).examined ≡ 0
  pub length : (values_of a).length ≡ 0
  pub unchanged : later ≡ c.lent
