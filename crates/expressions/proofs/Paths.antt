-- A set accepts a word exactly when one of its states does, along a path of states.
use mathlib.Core.Path.{◌≡◌, sym, subst}
use mathlib.Core.Logic.{◌↔◌}
use mathlib.Core.Bool.{true}
use mathlib.Core.List.{List, [], ◌∷◌}
use Prim.Native.Nat.{ℕ, ◌+◌, ◌*◌, ◌<◌}
use native.Mathlib.Decide.{dec_lt}
use native.Mathlib.Omega.{arith}
use lib.ListN.{get_or}
use lib.Seq.{get_or-take}
use Rattle.sets.specs.Sets.{Has, Good}
use Rattle.sets.proofs.Goodness.{good_bits}
use Rattle.sets.proofs.Meeting.{meets_members}
use Rattle.pattern.specs.Pattern.{row, Valid}
use Rattle.pattern.specs.Language.{next, reach, accepts, Over}
use Rattle.pattern.specs.Language.Over.{empty, letter}
use Rattle.pattern.proofs.Steps.{row_below, next_members}
use Rattle.expressions.specs.Languages.{made_of}
use Rattle.expressions.proofs.Glushkov.{Letters, Accepts}

pub over_letters : {w : List ℕ} → Over 32 w → Letters w
over_letters empty = tt
over_letters (letter l o) = (l, over_letters o)

-- a member of a set of n states is below n
pub good_below : {n m : ℕ} → Good n m → (s : ℕ) → Has m s → s < n
good_below {n} {m} g s h = pick (dec_lt s n)
  where
    pick : Dec (s < n) → s < n
    pick (yes l) = l
    pick (no l) = absurd ((good_bits n m).0 g s (omega arith) h)

-- a state of the set from which the word is accepted
abbrev pub Some : List ℕ → ℕ → ℕ → ℕ → List ℕ → Type 0
Some rows n finals set w = (s : ℕ) × (s < n) × Has set s × Accepts rows finals w s

module _ (n finals : ℕ) (rows : List ℕ) (v : Valid (made_of n finals rows)) where
  -- the pattern's row is the buffer's
  row_is : (s a : ℕ) → s < n → a < 32 → row (made_of n finals rows) s a ≡ get_or rows (s * 32 + a) 0
  row_is s a l h = get_or-take (n * 32) rows (s * 32 + a) 0 (row_below n 32 s a l h)

  row_good : (s a : ℕ) → s < n → a < 32 → Good n (row (made_of n finals rows) s a)
  row_good s a l h = v.rows_good (s * 32 + a) (rw v.tabled (row_below n 32 s a l h))

  pub accepts_some : (w : List ℕ) → Over 32 w → (set : ℕ) → (accepts (made_of n finals rows) set w ≡ true) ↔ Some rows n finals set w
  unfolding accepts reach
  accepts_some [] o set = (
    λ e. let r = (meets_members set finals).0 e in (r.0, good_below v.finals_good r.0 r.2, r.1, r.2),
    λ r. (meets_members set finals).1 (r.0, r.2, r.3),
  )
  accepts_some (a ∷ w) (letter l o) set = (
    λ e.
        let r = (accepts_some w o (next (made_of n finals rows) set a)).0 e in
        let m = (next_members (made_of n finals rows) set a r.0).0 r.2 in
        (m.0, m.1, m.2, (r.0, subst (λ (x : ℕ). Has x r.0) (row_is m.0 a m.1 l) m.3, r.3)),
    λ r.
        let t = r.3.0 in
        let h : Has (row (made_of n finals rows) r.0 a) t = subst (λ (x : ℕ). Has x t) (sym (row_is r.0 a r.1 l)) r.3.1 in
        (accepts_some w o (next (made_of n finals rows) set a)).1
        (t, good_below (row_good r.0 a r.1 l) t h, (next_members (made_of n finals rows) set a t).1 (r.0, r.1, r.2, h), r.3.2),
  )
