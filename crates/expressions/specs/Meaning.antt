-- What an answer to two texts means, to a host that sees its number (the scope, §7 and §14).
--   number_of, place_of, text_of   the number of an answer, and the place and the text returned with it
--   IsRefused                   the answer is a refusal
--   text_refusals               the numbers that it has then
--   Expressible one two room    both texts are right, nothing is wrong with either, and the rows have room
--   HonestExpressions           what an answer means (`expressions_honest`)
use Rattle.std.specs.Prelude.{◌≡◌, ◌↔◌, List, [], ◌∷◌, ℕ, ◌*◌, ◌≤◌, length, Ok, Err}
use mathlib.Core.List.{Memᴰ}
use Rattle.verdict.specs.Refusals.{number}
use Rattle.sets.specs.Sets.{Has}
use Rattle.expressions.specs.Expressions.{Expr, Takes}
use Rattle.expressions.specs.Positions.{second, states}
use Rattle.expressions.specs.Texts.{Means}
use Rattle.expressions.specs.Answers.{Fine, FineSecond, Refusal, Built, Answer}
use Rattle.expressions.specs.Languages.{Patterned}

abbrev pub number_of : Answer → ℕ
number_of (Ok p) = 7
number_of (Err f) = number f.fault.why

abbrev pub place_of : Answer → ℕ
place_of (Ok p) = 0
place_of (Err f) = f.fault.place

abbrev pub text_of : Answer → ℕ
text_of (Ok p) = 0
text_of (Err f) = f.text

abbrev pub IsRefused : Answer → Type 0
IsRefused (Ok p) = ⊥
IsRefused (Err f) = Unit {0}

abbrev pub text_refusals : List ℕ
text_refusals = 30 ∷ 31 ∷ 32 ∷ 14 ∷ []

pub record Expressible (one two : List ℕ) (room : ℕ) : Type 0 where
  pub left : Expr
  pub right : Expr
  pub one_is : Fine one 1 left
  pub two_is : FineSecond two (second left) right
  pub enough : states left right * 32 ≤ room

-- state s is final exactly where the text takes the empty sequence
pub record StartFinal (finals s : ℕ) (text : List ℕ) : Type 0 where
  pub tree : Expr
  pub means : Means text tree
  pub final : Has finals s ↔ Takes tree []

-- the pattern that is left: built as the construction says, speaking the two texts, each start final exactly where its text takes the empty
-- sequence
pub record Made (one two old new : List ℕ) (n finals x y : ℕ) : Type 0 where
  pub built : Built one two old new n finals x y
  pub speaks : Patterned one two new n finals x y
  pub first_final : StartFinal finals 0 one
  pub second_final : StartFinal finals (second built.left) two

abbrev pub MadeBy : List ℕ → List ℕ → List ℕ → List ℕ → Answer → Type 0
MadeBy one two old new (Ok p) = Made one two old new p.states p.finals p.x p.y
MadeBy one two old new (Err f) = ⊥

-- 7 DONE exactly where the texts can be made a pattern, and then that pattern is left; a refusal exactly where it applies, by its number, its
-- place and its text, and then nothing is changed
pub record HonestExpressions (one two old : List ℕ) (r : Answer) (new : List ℕ) : Type 0 where
  pub done : (number_of r ≡ 7) ↔ Expressible one two (length old)
  pub made : number_of r ≡ 7 → MadeBy one two old new r
  pub refused : IsRefused r ↔ (Expressible one two (length old) → ⊥)
  pub refused_by : (number place text : ℕ)
      → (IsRefused r × (number_of r ≡ number) × (place_of r ≡ place) × (text_of r ≡ text)) ↔ Refusal one two old number place text
  pub among : IsRefused r → Memᴰ (number_of r) text_refusals
  pub high : IsRefused r → 10 ≤ number_of r
  pub of_a_text : text_of r ≤ 2
  pub quiet : IsRefused r → new ≡ old
