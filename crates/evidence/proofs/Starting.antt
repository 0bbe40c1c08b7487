-- A list of no pairs is evidence for a set against itself, and for nothing else. Assumes nothing.
use mathlib.Core.Path.{◌≡◌, refl, sym, ◌∙◌}
use mathlib.Core.Logic.{◌↔◌}
use mathlib.Core.List.{[]}
use Prim.Native.Nat.{ℕ}
use native.Mathlib.Omega.{arith}
use Rattle.sets.specs.Sets.{Good}
use Rattle.pattern.specs.Pattern.{Pattern, Valid}
use Rattle.congruence.specs.Congruence.{Congruence}
use Rattle.congruence.proofs.Laws.{least, of_equal}
use Rattle.evidence.specs.Evidence.{Offer, ValidOffer, Starts}
use Rattle.evidence.specs.Meaning.{Holding}

-- by no pairs, a set is congruent to itself alone
starts_alone : {x y : ℕ} → Starts [] [] x y → x ≡ y
starts_alone h = least laws (λ a b r. let l = r.below in absurd (omega arith)) h
  where
    laws : Congruence (λ (a b : ℕ). a ≡ b)
    laws = record { reflexive = λ a. refl; symmetric = sym; transitive = λ p q. p ∙ q; unions = λ p q. cc }

-- no pairs, offered for x and y
abbrev pub no_pairs : Pattern → ℕ → ℕ → Offer
no_pairs P x y = record { pattern = P; x = x; y = y; lefts = []; rights = [] }

module _ {P : Pattern} {x y : ℕ} where
  pub no_pairs_valid : Valid P → Good P.states x → Good P.states y → ValidOffer (no_pairs P x y)
  no_pairs_valid v gx gy =
      record {
        pattern = v;
        pairs_fit = omega arith;
        sides_match = omega arith;
        x_good = gx;
        y_good = gy;
        lefts_good = λ i h. absurd (omega arith);
        rights_good = λ i h. absurd (omega arith);
      }

  pub no_pairs_hold : Holding (no_pairs P x y) ↔ (x ≡ y)
  no_pairs_hold = (λ h. starts_alone h.starts, λ e. record { starts = of_equal e; pairs = λ j h. absurd (omega arith) })
