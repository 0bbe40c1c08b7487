-- One sequence judged from one given set: 3 ACCEPT or 4 REJECT by the language, or 10, 11, 12, 15.
--   judge_test    what is refused, in the order 10, 11, 12, 15
--   judged        what judging answers; told: the same of the code's Result, which has `true` for ACCEPT
--   number_of     the scope's number of an answer; IsRefused: it is a refusal
--   Judgeable     a question that is not refused (`judge_fine`)
--   judge_lines   the lines of the refusals: `judge_test` goes by them (`judge_lines_lem`)
--   HonestJudge   what an answer means to a host that sees its number (`judge_honest`)
use Rattle.std.specs.Prelude.{◌≡◌, ◌↔◌, Bool, true, false, List, [], ◌∷◌, ℕ, ◌≤◌, ltb, Result, Ok, Err}
use Rattle.verdict.specs.declared.Refusal.{Refusal}
use Rattle.verdict.specs.Refusals.{number}
use Rattle.verdict.specs.Verdict.{Verdict}
use Rattle.verdict.specs.Verdict.Verdict.{Fine, Against}
use Rattle.verdict.specs.Tests.{need, in_order, each}
use Rattle.verdict.specs.Lines.{Lines, Applies}
use Rattle.verdict.specs.Lines.Lines.{none, line}
use Rattle.sets.specs.Sets.{Good}
use Rattle.pattern.specs.Pattern.{Pattern, Valid}
use Rattle.pattern.specs.Tests.{pattern_test, set_test}
use Rattle.pattern.specs.Refusals.{MasksGood, shape_lines}
use Rattle.pattern.specs.Language.{accepts, Over}

-- 15 BAD-LETTER: the letter is below k
unfoldable pub letter_test : ℕ → ℕ → Verdict
letter_test k a = need (ltb a k) 15

-- 10, 11, 12, 15
unfoldable pub judge_test : Pattern → ℕ → List ℕ → Verdict
judge_test P set sequence = in_order (pattern_test P ∷ set_test P.states set ∷ each (letter_test P.letters) sequence ∷ [])

pub data Judged : Type 0 where
  Accept : Judged
  Reject : Judged
  Refused : ℕ → Judged

abbrev pub by_language : Bool → Judged
by_language true = Accept
by_language false = Reject

abbrev pub or_refused : Verdict → Judged → Judged
or_refused Fine j = j
or_refused (Against w) j = Refused w

-- what judging answers
unfoldable pub judged : Pattern → ℕ → List ℕ → Judged
judged P set sequence = or_refused (judge_test P set sequence) (by_language (accepts P set sequence))

abbrev pub told : Result Bool Refusal → Judged
told (Ok accepted) = by_language accepted
told (Err why) = Refused (number why)

-- ---- what the answers mean

-- the scope's number of an answer
abbrev pub number_of : Judged → ℕ
number_of Accept = 3
number_of Reject = 4
number_of (Refused w) = w

abbrev pub IsRefused : Judged → Type 0
IsRefused Accept = ⊥
IsRefused Reject = ⊥
IsRefused (Refused w) = Unit {0}

pub record Judgeable (P : Pattern) (set : ℕ) (sequence : List ℕ) : Type 0 where
  pub valid : Valid P
  pub set_good : Good P.states set
  pub letters_below : Over P.letters sequence

abbrev pub judge_lines : Pattern → ℕ → List ℕ → Lines
judge_lines P set sequence = shape_lines P (line 12 (MasksGood P × Good P.states set) (line 15 (Over P.letters sequence) none))

-- 3 ACCEPT and 4 REJECT exactly where nothing is refused and the language says so; a refusal, 10 and up, exactly where a line applies, by its number
pub record HonestJudge (P : Pattern) (set : ℕ) (sequence : List ℕ) (j : Judged) : Type 0 where
  pub accept : (number_of j ≡ 3) ↔ (Judgeable P set sequence × (accepts P set sequence ≡ true))
  pub reject : (number_of j ≡ 4) ↔ (Judgeable P set sequence × (accepts P set sequence ≡ false))
  pub refused : IsRefused j ↔ (Judgeable P set sequence → ⊥)
  pub refused_by : (w : ℕ) → (IsRefused j × (number_of j ≡ w)) ↔ Applies (judge_lines P set sequence) w
  pub high : IsRefused j → 10 ≤ number_of j
