-- Which lists of names and signs are right, and the expression of each (the scope, §14).
--   Leaf, Mark, Token    a name, a postfix mark, and a name or sign
--   Reads level ts e     at that level of the grammar the list ts is the expression e
--   Right ts e           the list is right, and e is its expression; there is only one (`unambiguous`)
--   Viable ts            some right list begins so
use Rattle.std.specs.Prelude.{List, [], ◌∷◌, ◌++◌, ℕ}
use Rattle.expressions.specs.Expressions.{Expr}
use Rattle.expressions.specs.Expressions.Expr.{event, one, nought, alt, seq, star, plus, opt}

-- a name: an event by its letter, 1, or 0
pub data Leaf : Type 0 where
  letter : ℕ → Leaf
  unit : Leaf
  void : Leaf

-- a postfix mark: *, + or ?
pub data Mark : Type 0 where
  many : Mark
  some : Mark
  maybe : Mark

pub data Token : Type 0 where
  leaf : Leaf → Token
  mark : Mark → Token
  bar : Token
  open' : Token
  close' : Token

abbrev pub leaf_of : Leaf → Expr
leaf_of (letter a) = event a
leaf_of unit = one
leaf_of void = nought

abbrev pub mark_of : Mark → Expr → Expr
mark_of many e = star e
mark_of some e = plus e
mark_of maybe e = opt e

-- An alternation is made of sequences, a sequence of factors, and a factor may be an alternation in parentheses; a factor may carry several marks.
pub data Level : Type 0 where
  alternation : Level
  sequence : Level
  factor : Level

pub data Reads : Level → List Token → Expr → Type 0 where
  lone : {ts : List Token} {e : Expr} → Reads sequence ts e → Reads alternation ts e
  either : {us vs : List Token} {e f : Expr} → Reads alternation us e → Reads sequence vs f → Reads alternation (us ++ (bar ∷ vs)) (alt e f)
  single : {ts : List Token} {e : Expr} → Reads factor ts e → Reads sequence ts e
  further : {us vs : List Token} {e f : Expr} → Reads sequence us e → Reads factor vs f → Reads sequence (us ++ vs) (seq e f)
  name : (l : Leaf) → Reads factor (leaf l ∷ []) (leaf_of l)
  marked : {ts : List Token} {e : Expr} → Reads factor ts e → (m : Mark) → Reads factor (ts ++ (mark m ∷ [])) (mark_of m e)
  group : {ts : List Token} {e : Expr} → Reads alternation ts e → Reads factor (open' ∷ (ts ++ (close' ∷ []))) e

-- the list is right, and this is its expression
abbrev pub Right : List Token → Expr → Type 0
Right ts e = Reads alternation ts e

-- some right list begins so
pub record Viable (ts : List Token) : Type 0 where
  pub rest : List Token
  pub tree : Expr
  pub right : Right (ts ++ rest) tree
