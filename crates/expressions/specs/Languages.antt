-- What the pattern of two texts accepts: each start exactly the event sequences that its text's expression takes (the scope, §14).
--   made_of n finals rows     the pattern that the call leaves: n states, 32 letters, the first n * 32 rows of the buffer
--   Speaks P set text         the text is right, and the set accepts exactly the event sequences that its expression takes
--   Patterned one two ..      a pattern that no call refuses, of 2 states at least, whose two starts speak the two texts
--   Answered one two ..       what the public call promises
use Rattle.std.specs.Prelude.{◌≡◌, true, ◌↔◌, List, ℕ, ◌*◌, ◌≤◌, take, Ok, Err}
use Rattle.sets.specs.Sets.{Good}
use Rattle.pattern.specs.Pattern.{Pattern, pattern_of, Valid}
use Rattle.pattern.specs.Language.{accepts, Over}
use Rattle.expressions.specs.Expressions.{Expr, Takes}
use Rattle.expressions.specs.Texts.{Means}
use Rattle.expressions.specs.Answers.{Answer, Expressed}

abbrev pub made_of : ℕ → ℕ → List ℕ → Pattern
made_of n finals rows = pattern_of n 32 finals (take (n * 32) rows)

pub record Speaks (P : Pattern) (set : ℕ) (text : List ℕ) : Type 0 where
  pub tree : Expr
  pub means : Means text tree
  pub language : (w : List ℕ) → Over 32 w → (accepts P set w ≡ true) ↔ Takes tree w

pub record Patterned (one two rows : List ℕ) (n finals x y : ℕ) : Type 0 where
  pub valid : Valid (made_of n finals rows)
  pub two_starts : 2 ≤ n
  pub first_good : Good n x
  pub second_good : Good n y
  pub first_speaks : Speaks (made_of n finals rows) x one
  pub second_speaks : Speaks (made_of n finals rows) y two

abbrev pub Spoken : List ℕ → List ℕ → List ℕ → Answer → Type 0
Spoken one two rows (Ok p) = Patterned one two rows p.states p.finals p.x p.y
Spoken one two rows (Err f) = Unit {0}

abbrev pub Answered : List ℕ → List ℕ → List ℕ → List ℕ → Answer → Type 0
Answered one two rows rows' r = Expressed one two rows rows' r × Spoken one two rows' r
