-- What two texts become, or how they are refused (the scope, §14).
--   Fine, FineSecond     nothing is wrong with the first text, and with the second
--   WrongSecond          what can be wrong with the second, whose start takes a state too; FirstSecond: the first of it
--   Refusal one two rows number place text
--                        how the texts are refused: the first text goes first, and the room for the rows comes last
--   Built                the pattern that they become
--   of_text              a fault of the text of that number
--   Answer               what the call answers: the numbers of the pattern, or why a text is refused
--   Expressed            the answer: the pattern, or a refusal with the rows as they were. It is determined (`answer_determined`)
use Rattle.std.specs.Prelude.{◌≡◌, List, ℕ, suc, ◌*◌, ◌^◌, ◌≤◌, ◌<◌, length, get_or, Result, Ok, Err}
use Rattle.verdict.specs.declared.Fault.{Fault}
use Rattle.verdict.specs.Refusals.{number}
use Rattle.expressions.specs.Expressions.{Expr}
use Rattle.expressions.specs.Positions.{second, states, Together}
use Rattle.expressions.specs.Texts.{Means, Wrong, FirstOf, FirstFault}
use Rattle.expressions.specs.declared.TextPattern.{TextPattern}
use Rattle.expressions.specs.declared.TextFault.{TextFault}

-- a text that nothing is wrong with, its first name at state `taken`
pub record Fine (text : List ℕ) (taken : ℕ) (e : Expr) : Type 0 where
  pub means : Means text e
  pub faultless : (m q : ℕ) → Wrong text taken m q → ⊥

-- what can be wrong with the second text, whose start is to be state b
pub data WrongSecond (text : List ℕ) (b : ℕ) : ℕ → ℕ → Type 0 where
  no_start : 64 ≤ b → WrongSecond text b 31 0
  in_text : {m q : ℕ} → Wrong text (suc b) m q → WrongSecond text b m q

pub record FineSecond (text : List ℕ) (b : ℕ) (e : Expr) : Type 0 where
  pub means : Means text e
  pub faultless : (m q : ℕ) → WrongSecond text b m q → ⊥

abbrev pub FirstSecond : List ℕ → ℕ → ℕ → ℕ → Type 0
FirstSecond text b = FirstOf (WrongSecond text b)

-- number, place and text of a refusal: the first text goes first
pub data Refusal (one two rows : List ℕ) : ℕ → ℕ → ℕ → Type 0 where
  first_text : {number place : ℕ} → FirstFault one 1 number place → Refusal one two rows number place 1
  second_text : {number place : ℕ} {e : Expr} → Fine one 1 e → FirstSecond two (second e) number place → Refusal one two rows number place 2
  no_room : {e f : Expr} → Fine one 1 e → FineSecond two (second e) f → length rows < states e f * 32 → Refusal one two rows 14 0 0

pub record Built (one two rows rows' : List ℕ) (n finals x y : ℕ) : Type 0 where
  pub left : Expr
  pub right : Expr
  pub one_is : Fine one 1 left
  pub two_is : FineSecond two (second left) right
  pub count : n ≡ states left right
  pub few : n ≤ 64
  pub together : Together left right rows' finals
  pub first_start : x ≡ 1
  pub second_start : y ≡ 2 ^ second left
  pub fits : n * 32 ≤ length rows
  pub long : length rows' ≡ length rows
  pub rest : (i : ℕ) → n * 32 ≤ i → get_or rows' i 0 ≡ get_or rows i 0

-- a fault of the text of that number
abbrev pub of_text : ℕ → Fault → TextFault
of_text text f = record { fault = f; text = text }

abbrev pub Answer : Type 0
Answer = Result TextPattern TextFault

abbrev pub Expressed : List ℕ → List ℕ → List ℕ → List ℕ → Answer → Type 0
Expressed one two rows rows' (Ok p) = Built one two rows rows' p.states p.finals p.x p.y
Expressed one two rows rows' (Err f) = Refusal one two rows (number f.fault.why) f.fault.place f.text × (rows' ≡ rows)
