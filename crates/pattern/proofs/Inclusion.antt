-- X+Y and Y have one language exactly where X lies within Y as languages, since the language of a union is the union of the languages; and
-- what tells X+Y and Y apart is accepted from X and not from Y. Assumes nothing.
use mathlib.Core.Path.{◌≡◌, refl, sym, ap, ◌∙◌}
use mathlib.Core.Logic.{◌↔◌}
use mathlib.Core.Bool.{Bool, true, false, ◌||◌}
use mathlib.Core.List.{List}
use Prim.Native.Nat.{ℕ}
use lib.Bits.{bit_or}
use Rattle.sets.specs.Sets.{Within}
use Rattle.pattern.specs.Pattern.{Pattern}
use Rattle.pattern.specs.Language.{accepts, Over, SameLanguage}
use Rattle.pattern.specs.Inclusion.{LanguageWithin, Escapes}
use Rattle.pattern.proofs.Words.{accepts_union}

-- ---- of two flags

joins : (a b : Bool) → (a ≡ true → b ≡ true) → (a || b) ≡ b
joins true true f = refl
joins true false f = sym (f refl)
joins false b f = refl

within : (a b : Bool) → (a || b) ≡ b → a ≡ true → b ≡ true
within true b e h = sym e
within false b e h = cc

apart : (a b : Bool) → ((a || b) ≡ b → ⊥) → (a ≡ true) × (b ≡ false)
apart true true f = absurd (f refl)
apart true false f = (refl, refl)
apart false b f = absurd (f refl)

alike : (a b : Bool) → (a ≡ true → b ≡ true) → (b ≡ true → a ≡ true) → a ≡ b
alike true b f g = sym (f refl)
alike false true f g = g refl
alike false false f g = refl

-- ---- of two sets

module _ {P : Pattern} {x y : ℕ} where
  pub union_within : SameLanguage P (bit_or x y) y ↔ LanguageWithin P x y
  union_within = (
    λ s. record { words = λ w o. within (accepts P x w) (accepts P y w) (sym (accepts_union P x y w) ∙ s.words w o) },
    λ i. record { words = λ w o. accepts_union P x y w ∙ joins (accepts P x w) (accepts P y w) (i.words w o) },
  )

  pub union_escapes : {w : List ℕ} → Over P.letters w → (accepts P (bit_or x y) w ≡ accepts P y w → ⊥) → Escapes P x y w
  union_escapes {w} o f =
      let (a, r) = apart (accepts P x w) (accepts P y w) (λ e. f (accepts_union P x y w ∙ e)) in
      record { letters = o; accepted = a; rejected = r }

  -- and then X does not lie within Y
  pub escapes_within : {w : List ℕ} → Escapes P x y w → LanguageWithin P x y → ⊥
  escapes_within {w} e i = let z : ◌≡◌ {A = Bool} false true = sym e.rejected ∙ i.words w e.letters e.accepted in cc

  -- one language is each within the other
  pub within_both : (LanguageWithin P x y × LanguageWithin P y x) ↔ SameLanguage P x y
  within_both = (
    λ (i, j). record { words = λ w o. alike (accepts P x w) (accepts P y w) (i.words w o) (j.words w o) },
    λ s. (record { words = λ w o e. sym (s.words w o) ∙ e }, record { words = λ w o e. s.words w o ∙ e }),
  )

  -- a set within another is so as languages too
  pub set_within : Within x y → LanguageWithin P x y
  set_within i = union_within.0 (record { words = λ w o. ap (λ (s : ℕ). accepts P s w) i.joins })
