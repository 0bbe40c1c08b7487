-- The loop that links: the states passed are joined, the others as they were.
use mathlib.Core.Path.{◌≡◌, refl, sym, ap, ap₂, ◌∙◌, subst}
use mathlib.Core.List.{List}
use Prim.Native.Nat.{ℕ, ◌+◌, ◌*◌, ◌/◌, ◌^◌, ◌≤◌, ◌<◌}
use native.Mathlib.Nat.{one-mul, zero-mul}
use native.Mathlib.Decide.{dec_lt}
use native.Mathlib.Omega.{arith}
use lib.ListN.{length, get_or, set}
use lib.Seq.{get_or-set_same, get_or-set_other}
use lib.Bits.{bit_or, bit_and, and_mask, or_zero_r}
use Rattle.sets.specs.Sets.{bit}
use Rattle.expressions.specs.Positions.{linked}

pub record Linking (lasts firsts k : ℕ) (before after : List ℕ) : Type 0 where
  pub entry : (s : ℕ) → s < k → get_or after s 0 ≡ bit_or (get_or before s 0) (linked lasts s firsts)
  pub rest : (s : ℕ) → k ≤ s → get_or after s 0 ≡ get_or before s 0

pub linking_none : (l f : ℕ) (xs : List ℕ) → Linking l f 0 xs xs
linking_none l f xs = record { entry = λ s b. absurd (omega arith); rest = λ s b. refl }

module _ (l f k : ℕ) (fs xs ys : List ℕ) (h : Linking l f k fs xs) where
  pub linked_in : k < length xs → bit_and (l / 2 ^ k) 1 ≡ 1 → ys ≡ set xs k (bit_or (get_or xs k 0) f) → Linking l f (k + 1) fs ys
  linked_in i t e = record { entry = entry; rest = rest }
    where
      here : get_or ys k 0 ≡ bit_or (get_or fs k 0) (linked l k f)
      here =
          let b : bit l k ≡ 1 = sym (and_mask (l / 2 ^ k) 1) ∙ t in
          ap (λ (z : List ℕ). get_or z k 0) e ∙ get_or-set_same xs k (bit_or (get_or xs k 0) f) 0 i
          ∙ ap₂ bit_or (h.rest k (omega arith)) (sym (one-mul f) ∙ ap (λ (z : ℕ). z * f) (sym b))

      entry : (s : ℕ) → s < k + 1 → get_or ys s 0 ≡ bit_or (get_or fs s 0) (linked l s f)
      entry s b = go (dec_lt s k)
        where
          go : Dec (s < k) → get_or ys s 0 ≡ bit_or (get_or fs s 0) (linked l s f)
          go (yes g) = ap (λ (z : List ℕ). get_or z s 0) e ∙ get_or-set_other xs k s (bit_or (get_or xs k 0) f) 0 (λ j. omega arith) ∙ h.entry s g
          go (no g) = let j : k ≡ s = omega arith in subst (λ (z : ℕ). get_or ys z 0 ≡ bit_or (get_or fs z 0) (linked l z f)) j here

      rest : (s : ℕ) → k + 1 ≤ s → get_or ys s 0 ≡ get_or fs s 0
      rest s b =
          ap (λ (z : List ℕ). get_or z s 0) e ∙ get_or-set_other xs k s (bit_or (get_or xs k 0) f) 0 (λ j. omega arith) ∙ h.rest s (omega arith)

  pub linked_out : (bit_and (l / 2 ^ k) 1 ≡ 1 → ⊥) → ys ≡ xs → Linking l f (k + 1) fs ys
  linked_out t e = record { entry = entry; rest = λ s b. ap (λ (z : List ℕ). get_or z s 0) e ∙ h.rest s (omega arith) }
    where
      here : get_or ys k 0 ≡ bit_or (get_or fs k 0) (linked l k f)
      here =
          let b : bit l k ≡ 0 = omega (arith, and_mask (l / 2 ^ k) 1) in
          ap (λ (z : List ℕ). get_or z k 0) e ∙ h.rest k (omega arith)
          ∙ sym (ap (λ (z : ℕ). bit_or (get_or fs k 0) (z * f)) b ∙ ap (bit_or (get_or fs k 0)) (zero-mul f) ∙ or_zero_r (get_or fs k 0))

      entry : (s : ℕ) → s < k + 1 → get_or ys s 0 ≡ bit_or (get_or fs s 0) (linked l s f)
      entry s b = go (dec_lt s k)
        where
          go : Dec (s < k) → get_or ys s 0 ≡ bit_or (get_or fs s 0) (linked l s f)
          go (yes g) = ap (λ (z : List ℕ). get_or z s 0) e ∙ h.entry s g
          go (no g) = let j : k ≡ s = omega arith in subst (λ (z : ℕ). get_or ys z 0 ≡ bit_or (get_or fs z 0) (linked l z f)) j here
