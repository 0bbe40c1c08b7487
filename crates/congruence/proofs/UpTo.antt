-- Bisimulation up to congruence (the scope, §4.6; 000, theorem 2): pairs that agree on the empty sequence, and whose successors are congruent by
-- them, relate only sets with equal languages. Assumes nothing.
use mathlib.Core.Path.{◌≡◌, sym, ◌∙◌}
use mathlib.Core.List.{List, [], ◌∷◌}
use Prim.Native.Nat.{ℕ}
use Rattle.pattern.specs.Pattern.{Pattern}
use Rattle.pattern.specs.Language.{next, accepts, Over, SameLanguage}
use Rattle.pattern.specs.Language.Over.{empty, letter}
use Rattle.pattern.proofs.Words.{accepts_step}
use Rattle.congruence.specs.Congruence.{Congruent}
use Rattle.congruence.specs.Progress.{Progress}
use Rattle.congruence.proofs.Laws.{congruent_next, congruent_accepts}

pub up_to_congruence : {P : Pattern} {R : ℕ → ℕ → Type 0} → Progress P R → {a b : ℕ} → Congruent R a b → SameLanguage P a b
up_to_congruence {P} {R} p h = record { words = λ w o. go h w o }
  where
    go : {a b : ℕ} → Congruent R a b → (w : List ℕ) → Over P.letters w → accepts P a w ≡ accepts P b w
    go h [] empty = congruent_accepts P [] (λ a b r. (p.each a b r).agrees) h
    go {a} {b} h (x ∷ w) (letter l o) =
        accepts_step P a x w ∙ go {a = next P a x} {b = next P b x} (congruent_next P x (λ c d r. (p.each c d r).steps x l) h) w o ∙ sym (accepts_step P b x w)
