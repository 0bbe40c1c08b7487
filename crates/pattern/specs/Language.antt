-- The language of a set of states.
--   next P set a     the set that letter a takes a set to: the union of the rows of its members (`next_members`)
--   reach P set w    the set that the letters of w lead to
--   accepts P set w  that set meets the finals: the word is accepted
--   Over k w         an event sequence: a word of letters below k
--   SameLanguage     every event sequence is accepted from both sets or from neither
use Rattle.std.specs.Prelude.{◌≡◌, Bool, List, [], ◌∷◌, ℕ, zero, suc, ◌*◌, ◌<◌}
use Rattle.std.specs.Int.Bits.{bit_or}
use Rattle.sets.specs.Sets.{bit, meets}
use Rattle.pattern.specs.Pattern.{Pattern, row}

-- the union of the sets f s over the members s of a set, those below n
unfoldable pub union_below : (ℕ → ℕ) → ℕ → ℕ → ℕ
union_below f set zero = 0
union_below f set (suc s) = bit_or (union_below f set s) (bit set s * f s)

unfoldable pub next : Pattern → ℕ → ℕ → ℕ
next P set a = union_below (λ s. row P s a) set P.states

unfoldable pub reach : Pattern → ℕ → List ℕ → ℕ
reach P set [] = set
reach P set (a ∷ w) = reach P (next P set a) w

unfoldable pub accepts : Pattern → ℕ → List ℕ → Bool
accepts P set w = meets (reach P set w) P.finals

pub data Over (k : ℕ) : List ℕ → Type 0 where
  empty : Over k []
  letter : {a : ℕ} {w : List ℕ} → a < k → Over k w → Over k (a ∷ w)

pub record SameLanguage (P : Pattern) (x y : ℕ) : Type 0 where
  pub words : (w : List ℕ) → Over P.letters w → accepts P x w ≡ accepts P y w
