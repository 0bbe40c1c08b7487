-- The loop that passes over so many numbers: those of the earlier turns are read, and the others are still to be read.
use Prim.Native.Nat.{ℕ, ◌+◌, ◌-◌, ◌<◌, ◌≤◌}
use mathlib.Core.List.{List, []}
use mathlib.Core.Path.{◌≡◌, ap, subst, ◌∙◌}
use native.Mathlib.Omega.{arith}
use Rattle.std.specs.Prelude.{Ok}
use Rattle.verdict.specs.Verdict.{Verdict}
use Rattle.numbers.specs.Numbers.{number_at}
use Rattle.numbers.specs.Numbers.Number.{Value, Fault}
use Rattle.numbers.specs.Format.{Format, ended, item, many, refused, held_to, reading}
use Rattle.numbers.proofs.Parts.{many_none, many_more}
use Rattle.numbers.proofs.Steps.{Reached, reached_first, reached_item, reached_end, stopped_item}
use Rattle.patternfile.specs.Parts.{Passes}

pub record Passing (test : ℕ → Verdict) (s : List ℕ) (at count i place : ℕ) : Type 0 where
  pub vs : List ℕ
  pub reached : Reached (many count test ended) s at vs (many (count - i) test ended) place

pub passing_first : {test : ℕ → Verdict} {s : List ℕ} {at count : ℕ} → Passing test s at count 0 at
passing_first {test} {s} {at} {count} =
    let e : count ≡ count - 0 = omega arith in
    record { vs = []; reached = subst (λ (n : ℕ). Reached (many count test ended) s at [] (many n test ended) at) e (reached_first (many count test ended) s at) }

module _ {test : ℕ → Verdict} {s : List ℕ} {at count i place : ℕ} (g : Passing test s at count i place) where
  -- one number at least is left
  some_left : i < count → Reached (many count test ended) s at g.vs (item test (λ v. many (count - (i + 1)) test ended)) place
  some_left h =
      let e : count - i - 1 ≡ count - (i + 1) = omega arith in
      subst (λ (f : Format). Reached (many count test ended) s at g.vs f place)
      (many_more (count - i) test ended (omega arith) ∙ ap (λ (n : ℕ). item test (λ v. many n test ended)) e)
      g.reached

  pub passing_stopped : {w p : ℕ} → i < count → Fault w p ≡ held_to test place (number_at s place) → reading (many count test ended) s at ≡ refused w p
  passing_stopped h e = stopped_item (some_left h) e

  pub passing_step : {v next : ℕ} → i < count → Value v next ≡ held_to test place (number_at s place) → Passing test s at count (i + 1) next
  passing_step h e = record { vs = _; reached = reached_item (some_left h) e }

  pub passing_done : count ≤ i → Passes (reading (many count test ended) s at) (Ok place)
  passing_done h =
      let e : count - i ≡ 0 = omega arith in
      (g.vs, reached_end (subst (λ (f : Format). Reached (many count test ended) s at g.vs f place) (ap (λ (n : ℕ). many n test ended) e ∙ many_none test ended) g.reached))
