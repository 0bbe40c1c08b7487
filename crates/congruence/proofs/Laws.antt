-- The laws of congruence: it is the least; equal sets, more pairs, pairs that add nothing, what a letter does to it. Assumes nothing.
use mathlib.Core.Path.{◌≡◌, refl, sym, ◌∙◌}
use mathlib.Core.List.{List}
use Prim.Native.Nat.{ℕ}
use Rattle.pattern.specs.Pattern.{Pattern}
use Rattle.pattern.specs.Language.{next, accepts}
use Rattle.pattern.proofs.Steps.{next_union}
use Rattle.pattern.proofs.Words.{accepts_union}
use Rattle.congruence.specs.Congruence.{Congruence, Congruent}
use Rattle.congruence.specs.Congruence.Congruent.{given, same, back, on, union}

-- ---- the least congruence

pub congruent_laws : {R : ℕ → ℕ → Type 0} → Congruence (Congruent R)
congruent_laws = record { reflexive = same; symmetric = back; transitive = on; unions = union }

-- a relation that has the given pairs and the four laws contains the congruence
pub least : {R S : ℕ → ℕ → Type 0} → Congruence S → ((a b : ℕ) → R a b → S a b) → {a b : ℕ} → Congruent R a b → S a b
least l f (given r) = f _ _ r
least l f (same a) = l.reflexive a
least l f (back h) = l.symmetric (least l f h)
least l f (on h k) = l.transitive (least l f h) (least l f k)
least l f (union h k) = l.unions (least l f h) (least l f k)

-- ---- equal sets, other pairs

-- equal sets are congruent
pub of_equal : {R : ℕ → ℕ → Type 0} {a b : ℕ} → a ≡ b → Congruent R a b
of_equal {R} {a} e = rw (← e) (same a)

-- pairs that are all congruent by others add nothing to them
pub adds_nothing : {R S : ℕ → ℕ → Type 0} → ((a b : ℕ) → R a b → Congruent S a b) → {a b : ℕ} → Congruent R a b → Congruent S a b
adds_nothing f h = least congruent_laws f h

-- more pairs, more is congruent
pub monotone : {R S : ℕ → ℕ → Type 0} → ((a b : ℕ) → R a b → S a b) → {a b : ℕ} → Congruent R a b → Congruent S a b
monotone f h = adds_nothing (λ a b r. given (f a b r)) h

-- ---- letters and words

-- a letter takes congruent sets to congruent sets, where it does so with each pair
pub congruent_next : (P : Pattern) (x : ℕ) {R S : ℕ → ℕ → Type 0} → ((a b : ℕ) → R a b → Congruent S (next P a x) (next P b x))
    → {a b : ℕ} → Congruent R a b → Congruent S (next P a x) (next P b x)
congruent_next P x {R} {S} f h = least laws f h
  where
    laws : Congruence (λ (a b : ℕ). Congruent S (next P a x) (next P b x))
    laws =
        record {
          reflexive = λ a. same (next P a x);
          symmetric = back;
          transitive = on;
          unions = λ {a} {b} {c} {d} p q. rw (next_union P x a c, next_union P x b d) (union p q);
        }

-- congruent sets agree on a word, where each pair does
pub congruent_accepts : (P : Pattern) (w : List ℕ) {R : ℕ → ℕ → Type 0} → ((a b : ℕ) → R a b → accepts P a w ≡ accepts P b w)
    → {a b : ℕ} → Congruent R a b → accepts P a w ≡ accepts P b w
congruent_accepts P w f h = least laws f h
  where
    laws : Congruence (λ (a b : ℕ). accepts P a w ≡ accepts P b w)
    laws =
        record {
          reflexive = λ a. refl;
          symmetric = sym;
          transitive = λ p q. p ∙ q;
          unions = λ {a} {b} {c} {d} p q. rw (accepts_union P a c w, accepts_union P b d w, p, q);
        }
