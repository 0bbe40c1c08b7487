-- An expression, and the event sequences that it takes (the scope, §14). Nothing here knows of texts, readers, positions or tables.
--   Expr          `event a` is the event of letter a, `one` the empty sequence, `nought` no sequence; `alt` is `|`, `seq` one after the other,
--                 `star` is `*`, `plus` is `+`, and `opt` is `?`
--   Split P Q w   w falls into a front in P and a back in Q
--   Repeats P w   w is a number of words of P, one after the other
--   Takes e w     the expression e takes the event sequence w
use Rattle.std.specs.Prelude.{◌≡◌, ◌⊎◌, List, [], ◌∷◌, ◌++◌, ℕ}

pub data Expr : Type 0 where
  event : ℕ → Expr
  one : Expr
  nought : Expr
  alt : Expr → Expr → Expr
  seq : Expr → Expr → Expr
  star : Expr → Expr
  plus : Expr → Expr
  opt : Expr → Expr

-- w falls into a front in P and a back in Q
pub record Split (P Q : List ℕ → Type 0) (w : List ℕ) : Type 0 where
  pub front : List ℕ
  pub back : List ℕ
  pub joins : w ≡ front ++ back
  pub left : P front
  pub right : Q back

-- w is a number of words of P, one after the other
pub data Repeats (P : List ℕ → Type 0) : List ℕ → Type 0 where
  never : Repeats P []
  again : {u v : List ℕ} → P u → Repeats P v → Repeats P (u ++ v)

-- the language of an expression
abbrev pub Takes : Expr → List ℕ → Type 0
Takes (event a) w = w ≡ a ∷ []
Takes one w = w ≡ []
Takes nought w = ⊥
Takes (alt e f) w = Takes e w ⊎ Takes f w
Takes (seq e f) w = Split (Takes e) (Takes f) w
Takes (star e) w = Repeats (Takes e) w
Takes (plus e) w = Split (Takes e) (Repeats (Takes e)) w
Takes (opt e) w = (w ≡ []) ⊎ Takes e w
