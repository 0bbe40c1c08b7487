-- What is left of the records' lines, and how long one is; the line of an empty sequence. Assumes nothing.
use mathlib.Core.Path.{◌≡◌, refl}
use mathlib.Core.List.{List, [], ◌∷◌, map}
use mathlib.Core.Logic.{◌⊎◌, inl, inr}
use Prim.Native.Nat.{ℕ, ◌+◌}
use native.Mathlib.Omega.{arith}
use lib.ListN.{length}
use Rattle.lent.proofs.Filling.{Splits}
use Rattle.text.specs.Text.{word, decimal, spaced, joined, line}
use Rattle.text.proofs.Lines.{spaced_length, whole_length}
use Rattle.events.specs.Events.{event_name}
use Rattle.report.specs.Inner.{pair_lines}

-- ---- the records' lines

pub pairs_none : (lefts rights : List ℕ) → (lefts ≡ []) ⊎ (rights ≡ []) → pair_lines lefts rights ≡ []
unfolding pair_lines
pairs_none lefts rights (inl e) = rw e
pairs_none [] rights (inr e) = refl
pairs_none (l ∷ lefts) rights (inr e) = rw e

pub pairs_step : {lefts rights : List ℕ} {l r : ℕ} {others others' : List ℕ} → lefts ≡ l ∷ others → rights ≡ r ∷ others'
    → Splits (pair_lines lefts rights) (line (decimal l ∷ decimal r ∷ [])) (pair_lines others others')
unfolding pair_lines
pairs_step e f = record { parts = rw (e, f) }

-- ---- a record's line

pub pair_length : (a b : List ℕ) → length (line (a ∷ b ∷ [])) ≡ length a + length b + 2
unfolding spaced
pair_length a b = omega (arith, whole_length a (b ∷ []), spaced_length b [])

-- ---- an empty sequence

pub no_names : (s : List ℕ) → length s ≡ 0 → line (map event_name s) ≡ word "\n"
unfolding line joined
no_names [] h = refl
no_names (a ∷ s) h = absurd (omega arith)
