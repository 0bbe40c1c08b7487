-- What the probes answer: 7 and the value, or a refusal and 0. They are for tests alone, so that inner functions can be held to a reference.
use Rattle.std.specs.Prelude.{◌≡◌, List, [], ◌∷◌, ℕ, ◌≤◌, length, eqb, ltb, Result, Ok, Err}
use Rattle.verdict.specs.declared.Refusal.{Refusal}
use Rattle.verdict.specs.Refusals.{number}
use Rattle.verdict.specs.Verdict.{Verdict}
use Rattle.verdict.specs.Verdict.Verdict.{Fine, Against}
use Rattle.verdict.specs.Tests.{need, in_order}
use Rattle.pattern.specs.Pattern.{Pattern, pattern_of}
use Rattle.pattern.specs.Tests.{shape_test}
use Rattle.pattern.specs.Language.{next}
use Rattle.pattern.specs.Judge.{letter_test}
use Rattle.congruence.specs.Congruence.{Congruent, Listed}
use Rattle.congruence.specs.Closing.{Closes}
use Rattle.probes.specs.declared.Probed.{Probed}

-- 7 and the value, or the number of a refusal and 0
abbrev pub probed_by : Result ℕ Refusal → Probed
probed_by (Ok v) = record { answer = 7; value = v }
probed_by (Err why) = record { answer = number why; value = 0 }

pub record Probes (test : Verdict) (Right : ℕ → Type 0) (r : Probed) : Type 0 where
  pub done : test ≡ Fine → (r.answer ≡ 7) × Right r.value
  pub refused : (w : ℕ) → test ≡ Against w → (r.answer ≡ w) × (r.value ≡ 0)

-- a state that a mask has a bit for
unfoldable pub state_test : ℕ → Verdict
state_test s = need (ltb s 64) 12

-- 10, 11, 15
unfoldable pub next_test : Pattern → ℕ → Verdict
next_test P a = in_order (shape_test P ∷ letter_test P.letters a ∷ [])

-- the set that a letter takes a set to, whatever the finals are
abbrev pub ProbesNext : ℕ → ℕ → List ℕ → ℕ → ℕ → Probed → Type 0
ProbesNext n k rows set letter r =
    (finals : ℕ) → Probes (next_test (pattern_of n k finals rows) letter) (λ v. v ≡ next (pattern_of n k finals rows) set letter) r

-- two sides of one length
unfoldable pub sides_test : List ℕ → List ℕ → Verdict
sides_test lefts rights = need (eqb (length lefts) (length rights)) 16

-- a yes or no as a number
pub record Says (A : Type 0) (v : ℕ) : Type 0 where
  pub bound : v ≤ 1
  pub sound : v ≡ 1 → A
  pub complete : v ≡ 0 → A → ⊥

-- ---- what is asked of a lent list of pairs

-- the set, closed by the pairs
abbrev pub ProbesClosing : List ℕ → List ℕ → ℕ → Probed → Type 0
ProbesClosing lefts rights set r = Probes (sides_test lefts rights) (λ v. Closes (Listed lefts rights) set v) r

-- whether two sets are congruent by the pairs
abbrev pub ProbesCongruence : List ℕ → List ℕ → ℕ → ℕ → Probed → Type 0
ProbesCongruence lefts rights a b r = Probes (sides_test lefts rights) (λ v. Says (Congruent (Listed lefts rights) a b) v) r
