-- The two ways that a probe ends. Assumes nothing.
use mathlib.Core.Path.{◌≡◌, refl}
use mathlib.Core.Bool.{Bool, true, false}
use mir.Val.{bool_byte}
use Prim.Native.Nat.{ℕ}
use native.Mathlib.Omega.{arith}
use Rattle.verdict.specs.Verdict.{Verdict}
use Rattle.verdict.specs.Verdict.Verdict.{Fine, Against}
use Rattle.verdict.specs.Tests.{Decides}
use Rattle.verdict.proofs.Ordered.{apart, one_number}
use Rattle.probes.specs.Probes.{Probes, Says}

module _ {test : Verdict} {Right : ℕ → Type 0} {v : ℕ} where
  pub probe_done : test ≡ Fine → Right v → Probes test Right (record { answer = 7; value = v })
  probe_done e r = record { done = λ p. (refl, r); refused = λ w p. apart e p }

pub probe_refused : {test : Verdict} {w : ℕ} (Right : ℕ → Type 0) → test ≡ Against w → Probes test Right (record { answer = w; value = 0 })
probe_refused Right e = record { done = λ p. apart p e; refused = λ u p. (one_number e p, refl) }

-- a flag as a number
pub says : {A : Type 0} {flag : Bool} → Decides A flag → Says A (bool_byte flag)
says {flag = true} d = record { bound = omega arith; sound = λ p. d.sound refl; complete = λ p. omega arith }
says {flag = false} d = record { bound = omega arith; sound = λ p. absurd (omega arith); complete = λ p. d.complete refl }
