-- How two texts are refused: the faults of the second text, whose start takes a state too, and the room for the rows.
use mathlib.Core.Path.{◌≡◌, refl, sym, ap, subst}
use mathlib.Core.Logic.{◌⊎◌, inl, inr, ⊎_elim}
use mathlib.Core.List.{List}
use Prim.Native.Nat.{ℕ, suc, ◌+◌, ◌*◌, ◌≤◌, ◌<◌}
use native.Mathlib.Omega.{arith}
use lib.ListN.{length}
use Rattle.std.specs.Prelude.{Result, Ok, Err}
use Rattle.verdict.specs.declared.Fault.{Fault}
use Rattle.verdict.specs.Refusals.{number}
use Rattle.expressions.specs.Expressions.{Expr}
use Rattle.expressions.specs.Positions.{second}
use Rattle.expressions.specs.Texts.{Wrong, FirstFault, opens, shuts}
use Rattle.expressions.specs.Texts.Wrong.{misplaced, unknown, unfinished, too_many, too_deep}
use Rattle.expressions.specs.Both.{Whole, Judged, Crowded}
use Rattle.expressions.specs.Answers.{Fine, FineSecond, WrongSecond, FirstSecond, Refusal, Expressed}
use Rattle.expressions.specs.Answers.WrongSecond.{no_start, in_text}
use Rattle.expressions.specs.Answers.Refusal.{second_text, no_room}
use Rattle.expressions.specs.declared.Piece.{Piece}
use Rattle.expressions.specs.declared.Tables.{Tables}
use Rattle.expressions.specs.declared.TextFault.{TextFault}
use Rattle.expressions.proofs.Passing.{none_here}

-- with 64 states taken and with 65 the same things are wrong
up : {text : List ℕ} {m q : ℕ} → Wrong text 64 m q → Wrong text 65 m q
up (misplaced r h e v) = misplaced r h e v
up (unknown r h e) = unknown r h e
up (unfinished r f) = unfinished r f
up (too_many r h e g) = too_many r h e (omega arith)
up (too_deep r h e g) = too_deep r h e g

down : {text : List ℕ} {m q : ℕ} → Wrong text 65 m q → Wrong text 64 m q
down (misplaced r h e v) = misplaced r h e v
down (unknown r h e) = unknown r h e
down (unfinished r f) = unfinished r f
down (too_many r h e g) = too_many r h e (omega arith)
down (too_deep r h e g) = too_deep r h e g

-- at place 0 nothing is too deep
shallow : {text : List ℕ} {taken m q : ℕ} → Wrong text taken m q → q ≡ 0 → m ≤ 31
unfolding opens shuts
shallow (misplaced r h e v) j = omega arith
shallow (unknown r h e) j = omega arith
shallow (unfinished r f) j = omega arith
shallow (too_many r h e g) j = omega arith
shallow (too_deep {ts = ts} r h e g) j =
    let z = none_here r (sym j) in
    absurd (omega (arith, ap opens z, ap shuts z))

module _ (text : List ℕ) where
  -- room for the start
  pub second_first : (b number place : ℕ) → b < 64 → FirstFault text (suc b) number place → FirstSecond text b number place
  second_first b number place l f = record { wrong = in_text f.wrong; least = least }
    where
      least : (m q : ℕ) → WrongSecond text b m q → (place < q) ⊎ ((place ≡ q) × (number ≤ m))
      least m q (no_start g) = absurd (omega arith)
      least m q (in_text w) = f.least m q w

  -- none
  pub crowded_zero : (number place : ℕ) → place ≡ 0 → FirstFault text 64 number place → FirstSecond text 64 number 0
  crowded_zero number place z f = record { wrong = in_text (up (subst (λ (y : ℕ). Wrong text 64 number y) z f.wrong)); least = least }
    where
      least : (m q : ℕ) → WrongSecond text 64 m q → (0 < q) ⊎ ((0 ≡ q) × (number ≤ m))
      least m q (no_start g) = inr (refl, shallow f.wrong z)
      least m q (in_text w) = ⊎_elim (λ l. inl (omega arith)) (λ k. inr (omega (arith, k.0), k.1)) (f.least m q (down w))

  pub crowded_later : (number place : ℕ) → (place ≡ 0 → ⊥) → FirstFault text 64 number place → FirstSecond text 64 31 0
  crowded_later number place z f = record { wrong = no_start (omega arith); least = least }
    where
      least : (m q : ℕ) → WrongSecond text 64 m q → (0 < q) ⊎ ((0 ≡ q) × (31 ≤ m))
      least m q (no_start g) = inr (refl, omega arith)
      least m q (in_text w) = ⊎_elim (λ l. inl (omega arith)) (λ k. inl (omega (arith, k.0))) (f.least m q (down w))

  pub crowded_fine : ((m q : ℕ) → Wrong text 64 m q → ⊥) → FirstSecond text 64 31 0
  crowded_fine f = record { wrong = no_start (omega arith); least = least }
    where
      least : (m q : ℕ) → WrongSecond text 64 m q → (0 < q) ⊎ ((0 ≡ q) × (31 ≤ m))
      least m q (no_start g) = inr (refl, omega arith)
      least m q (in_text w) = absurd (f m q (down w))

pub fine : {text : List ℕ} {u : ℕ} {old new : Tables} {x : Piece} (w : Whole text u old new x) → Fine text u w.tree
fine w = record { means = w.means; faultless = w.faultless }

pub fine_second : (text : List ℕ) (b : ℕ) (e : Expr) → b < 64 → Fine text (suc b) e → FineSecond text b e
fine_second text b e l k = record { means = k.means; faultless = faultless }
  where
    faultless : (m q : ℕ) → WrongSecond text b m q → ⊥
    faultless m q (no_start g) = omega arith
    faultless m q (in_text w) = k.faultless m q w

-- ---- after a first text that nothing is wrong with

module _ {one : List ℕ} {old new : Tables} {x : Piece} (w : Whole one 1 old new x) where
  pub at_second : x.used ≡ second w.tree
  at_second = omega (arith, w.states)

  pub after_second : x.used + 1 ≡ suc (second w.tree)
  after_second = omega (arith, w.states)

  pub second_fine : {two : List ℕ} {from to : Tables} {y : Piece} (v : Whole two (x.used + 1) from to y) → FineSecond two (second w.tree) v.tree
  second_fine {two} v =
      fine_second two (second w.tree) v.tree (omega (arith, w.states, v.states, v.room))
      (subst (λ (z : ℕ). Fine two z v.tree) after_second (fine v))

  module _ {two rows : List ℕ} where
    pub refuse_second : {n p : ℕ} → x.used < 64 → FirstFault two (x.used + 1) n p → Refusal one two rows n p 2
    refuse_second {n} {p} l f =
        second_text (fine w)
        (second_first two (second w.tree) n p (omega (arith, at_second)) (subst (λ (z : ℕ). FirstFault two z n p) after_second f))

    pub refuse_room : {from to : Tables} {y : Piece} → Whole two (x.used + 1) from to y → length rows < y.used * 32
        → Refusal one two rows 14 0 0
    refuse_room v l = no_room (fine w) (second_fine v) (omega (arith, w.states, v.states))

  module _ (two rows : List ℕ) (l : 64 ≤ x.used) where
    full : 64 ≡ second w.tree
    full = omega (arith, at_second, w.room)

    refuse_start : {n : ℕ} → FirstSecond two 64 n 0 → Refusal one two rows n 0 2
    refuse_start {n} f = second_text (fine w) (subst (λ (z : ℕ). FirstSecond two z n 0) full f)

    pub refuse_crowded : (from to : Tables) (b : Result Piece Fault) (r : TextFault) → Judged two 64 from to b → Crowded b r
        → Expressed one two rows rows (Err r)
    refuse_crowded from to (Ok y) r j c =
        subst (λ (z : TextFault). Expressed one two rows rows (Err z)) (sym c) (refuse_start (crowded_fine two j.faultless), refl)
    refuse_crowded from to (Err f) r j c =
        ⊎_elim
        (λ d.
        subst (λ (z : TextFault). Expressed one two rows rows (Err z)) (sym d.1)
        (subst (λ (z : ℕ). Refusal one two rows (number f.why) z 2) (sym d.0) (refuse_start (crowded_zero two (number f.why) f.place d.0 j)), refl))
        (λ d.
        subst (λ (z : TextFault). Expressed one two rows rows (Err z)) (sym d.1)
        (refuse_start (crowded_later two (number f.why) f.place d.0 j), refl))
        c
