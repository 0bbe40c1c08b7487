-- One pass over the names and signs of a text that finds its first fault. Private functions alone cite this file: no promise to a host rests on it.
-- What the pass finds is what `FirstFault` says (`first_fault`).
--   Phase         a factor must come next or not, at a depth, with so many states taken; or the pass has halted
--   scan ts p     the phase after the names and signs ts
--   Here          the fault at a place that the pass has come to
--   Comes, Faults from a place the pass comes to another, and to a fault
use Rattle.std.specs.Prelude.{◌≡◌, ◌⊎◌, Bool, true, false, cond, List, [], ◌∷◌, ℕ, zero, suc, ◌≤◌, ◌<◌, length, leb}
use Rattle.expressions.specs.Grammar.{Mark, Token}
use Rattle.expressions.specs.Grammar.Leaf.{letter, unit, void}
use Rattle.expressions.specs.Grammar.Token.{leaf, mark, bar, open', close'}
use Rattle.expressions.specs.Texts.{item_at, Passes}
use Rattle.expressions.specs.Texts.Item.{token, bad}

pub data Phase : Type 0 where
  going : Bool → ℕ → ℕ → Phase
  halted : Phase

-- a token, where a factor must come next or not, at a depth, with so many states taken
abbrev pub onward : Token → Bool → ℕ → ℕ → Phase
onward (leaf (letter a)) n d u = cond (leb 64 u) halted (going false d (suc u))
onward (leaf unit) n d u = going false d u
onward (leaf void) n d u = going false d u
onward (mark m) true d u = halted
onward (mark m) false d u = going false d u
onward bar true d u = halted
onward bar false d u = going true d u
onward open' n d u = cond (leb 32 d) halted (going true (suc d) u)
onward close' true d u = halted
onward close' false zero u = halted
onward close' false (suc d) u = going false d u

abbrev pub turn : Token → Phase → Phase
turn t (going n d u) = onward t n d u
turn t halted = halted

abbrev pub scan : List Token → Phase → Phase
scan [] p = p
scan (t ∷ ts) p = scan ts (turn t p)

-- a token that the grammar does not have there
pub data Stops : Token → Bool → ℕ → Type 0 where
  no_mark : {m : Mark} {d : ℕ} → Stops (mark m) true d
  no_bar : {d : ℕ} → Stops bar true d
  no_close : {d : ℕ} → Stops close' true d
  none_open : Stops close' false 0

-- the fault at a place that the pass has come to
pub data Here (text : List ℕ) (q : ℕ) (n : Bool) (d u : ℕ) : ℕ → Type 0 where
  bad_here : q < length text → item_at text q ≡ bad → Here text q n d u 30
  end_here : q ≡ length text → (n ≡ true) ⊎ (0 < d) → Here text q n d u 30
  stop_here : {t : Token} → q < length text → item_at text q ≡ token t → Stops t n d → Here text q n d u 30
  many_here : {a : ℕ} → q < length text → item_at text q ≡ token (leaf (letter a)) → 64 ≤ u → Here text q n d u 31
  deep_here : q < length text → item_at text q ≡ token open' → 32 ≤ d → Here text q n d u 32

-- from a place the pass comes to another
pub record Comes (text : List ℕ) (at : ℕ) (n : Bool) (d u to : ℕ) (n' : Bool) (d' u' : ℕ) (ts : List Token) : Type 0 where
  pub passes : Passes text at ts to
  pub scans : scan ts (going n d u) ≡ going n' d' u'

-- from a place the pass comes to a fault
pub record Faults (text : List ℕ) (at : ℕ) (n : Bool) (d u number place : ℕ) : Type 0 where
  pub tokens : List Token
  pub need : Bool
  pub depth : ℕ
  pub used : ℕ
  pub comes : Comes text at n d u place need depth used tokens
  pub fault : Here text place need depth used number
