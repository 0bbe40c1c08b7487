-- The laws of words: one letter more, the language of a union and of the empty set, and the set that a word leads to. Assumes nothing.
use mathlib.Core.Path.{◌≡◌, refl, ap, ◌∙◌}
use mathlib.Core.Bool.{false, ◌||◌}
use mathlib.Core.List.{List, [], ◌∷◌, ◌++◌}
use Prim.Native.Nat.{ℕ, zero, suc, ◌<◌}
use native.Mathlib.Nat.{le_of_suc-le-suc, not-suc-le-zero}
use native.Mathlib.Omega.{arith}
use lib.ListN.{length, get_or}
use lib.Bits.{bit_or}
use Rattle.sets.specs.Sets.{meets}
use Rattle.sets.proofs.Meeting.{meets_union}
use Rattle.pattern.specs.Pattern.{Pattern}
use Rattle.pattern.specs.Language.{next, reach, accepts, Over}
use Rattle.pattern.specs.Language.Over.{empty, letter}
use Rattle.pattern.proofs.Steps.{next_union, next_empty}

module _ (P : Pattern) where
  pub reach_snoc : (x : ℕ) (w : List ℕ) (a : ℕ) → reach P x (w ++ (a ∷ [])) ≡ next P (reach P x w) a
  unfolding reach
  reach_snoc x [] a = refl
  reach_snoc x (b ∷ w) a = reach_snoc (next P x b) w a

  pub accepts_step : (x a : ℕ) (w : List ℕ) → accepts P x (a ∷ w) ≡ accepts P (next P x a) w
  unfolding accepts reach
  accepts_step x a w = refl

  -- a word is accepted where the set that it leads to accepts the empty one
  pub accepts_reach : (x : ℕ) (w : List ℕ) → accepts P x w ≡ accepts P (reach P x w) []
  unfolding accepts reach
  accepts_reach x w = refl

  -- the language of a union is the union of the languages
  pub accepts_union : (x y : ℕ) (w : List ℕ) → accepts P (bit_or x y) w ≡ (accepts P x w || accepts P y w)
  unfolding accepts reach
  accepts_union x y [] = meets_union x y P.finals
  accepts_union x y (a ∷ w) = ap (λ (s : ℕ). accepts P s w) (next_union P a x y) ∙ accepts_union (next P x a) (next P y a) w

  pub empty_accepts_nothing : (w : List ℕ) → accepts P 0 w ≡ false
  unfolding accepts reach meets
  empty_accepts_nothing [] = refl
  empty_accepts_nothing (a ∷ w) = ap (λ (s : ℕ). accepts P s w) (next_empty P a) ∙ empty_accepts_nothing w

pub over_snoc : {k a : ℕ} {w : List ℕ} → Over k w → a < k → Over k (w ++ (a ∷ []))
over_snoc empty h = letter h empty
over_snoc (letter l o) h = letter l (over_snoc o h)

-- a sequence is one exactly when each of its letters is below k
pub over_from : (k : ℕ) (w : List ℕ) → ((i : ℕ) → i < length w → get_or w i 0 < k) → Over k w
over_from k [] f = empty
over_from k (a ∷ w) f = letter (f 0 (omega arith)) (over_from k w (λ i l. f (suc i) (omega arith)))

pub over_at : {k : ℕ} {w : List ℕ} → Over k w → (i : ℕ) → i < length w → get_or w i 0 < k
over_at empty i l = absurd (not-suc-le-zero l)
over_at (letter h o) zero l = h
over_at (letter h o) (suc i) l = over_at o i (le_of_suc-le-suc l)
