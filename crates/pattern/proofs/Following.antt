-- What the loop of `reached` keeps: the letters read so far lead from the set to where it stands. Assumes nothing.
use mathlib.Core.Path.{◌≡◌, refl, sym, ◌∙◌}
use mathlib.Core.List.{List}
use Prim.Native.Nat.{ℕ, ◌+◌, ◌≤◌, ◌<◌}
use native.Mathlib.Numerals.{add-one}
use native.Mathlib.Omega.{arith}
use lib.ListN.{length, get_or, drop}
use lib.Seq.{drop-cons, drop-length}
use Rattle.pattern.specs.Pattern.{Pattern}
use Rattle.pattern.specs.Language.{next, reach}

-- from the set by the whole word is from here by the rest of it
pub record Following (P : Pattern) (set : ℕ) (word : List ℕ) (at i : ℕ) : Type 0 where
  pub bound : i ≤ length word
  pub rest : reach P set word ≡ reach P at (drop i word)

module _ {P : Pattern} {set : ℕ} {word : List ℕ} where
  pub following_more : {at at' i : ℕ} → i < length word → Following P set word at i
      → at' ≡ next P at (get_or word i 0) → Following P set word at' (i + 1)
  unfolding reach
  following_more {at} {at'} {i} l f e = record { bound = omega arith; rest = f.rest ∙ rw (drop-cons word i 0 l, add-one, e) refl }

  pub following_done : {at i : ℕ} → length word ≤ i → Following P set word at i → at ≡ reach P set word
  unfolding reach
  following_done {at} {i} l f =
      let whole : i ≡ length word = omega arith in
      sym (f.rest ∙ rw (whole, drop-length word) refl)
