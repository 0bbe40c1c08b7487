-- What the loop of `next` keeps: it goes through the members of a set, lowest first. Assumes nothing.
use mathlib.Core.Path.{◌≡◌, refl, sym, ap, ◌∙◌}
use mathlib.Core.Logic.{⊎_elim}
use Prim.Native.Nat.{ℕ, zero, suc, ◌*◌, ◌%◌, ◌^◌, ◌≤◌, ◌<◌}
use native.Mathlib.Nat.{one-mul, zero-mul, zero-div, eq-or-lt_of_le, le_of_suc-le-suc}
use native.Mathlib.Decide.{dec_lt}
use native.Mathlib.Omega.{arith}
use lib.Bits.{bit_or}
use Rattle.sets.specs.Sets.{bit}
use Rattle.sets.proofs.Bits.{union_empty}
use Rattle.sets.proofs.Lowest.{Lowest}
use Rattle.pattern.specs.Language.{union_below}

-- states that are not in the set add nothing
union_gap : (f : ℕ → ℕ) (set t u : ℕ) → t ≤ u → ((s : ℕ) → t ≤ s → s < u → bit set s ≡ 0) → union_below f set t ≡ union_below f set u
unfolding union_below
union_gap f set t zero h g = let z : t ≡ 0 = omega arith in ap (union_below f set) z
union_gap f set t (suc u) h g =
    ⊎_elim
    (λ (z : t ≡ suc u). ap (union_below f set) z)
    (λ (b : t < suc u). union_gap f set t u (le_of_suc-le-suc b) (λ s l k. g s l (omega arith)) ∙ add u (g u (le_of_suc-le-suc b) (omega arith)))
    (eq-or-lt_of_le h)
  where
    add : (u : ℕ) → bit set u ≡ 0 → union_below f set u ≡ bit_or (union_below f set u) (bit set u * f u)
    add u z = rw (z, zero-mul, union_empty)

-- the members below `upto` are dealt with; `left` has the others
pub record Picking (f : ℕ → ℕ) (n set m left : ℕ) : Type 0 where
  pub upto : ℕ
  pub within : upto ≤ n
  pub others : (s : ℕ) → upto ≤ s → bit left s ≡ bit set s
  pub gone : (s : ℕ) → s < upto → bit left s ≡ 0
  pub sum : m ≡ union_below f set upto
  pub fits : left < 2 ^ 64

module _ {f : ℕ → ℕ} {n set : ℕ} where
  pub picking_first : set < 2 ^ 64 → Picking f n set 0 set
  unfolding union_below
  picking_first h = record { upto = 0; within = omega arith; others = λ s l. refl; gone = λ s l. absurd (omega arith); sum = refl; fits = h }

  module _ {m left : ℕ} (p : Picking f n set m left) where
    -- nothing of the set is left below u
    finish : (u : ℕ) → p.upto ≤ u → ((s : ℕ) → s < u → bit left s ≡ 0) → m ≡ union_below f set u
    finish u h z = p.sum ∙ union_gap f set p.upto u h (λ s l b. sym (p.others s l) ∙ z s b)

    pub picking_done : left ≡ 0 → m ≡ union_below f set n
    picking_done e = finish n p.within (λ s l. ap (λ (x : ℕ). bit x s) e ∙ ap (λ (x : ℕ). x % 2) (zero-div (2 ^ s)))

    pub picking_past : {s r : ℕ} → Lowest left s r → n ≤ s → m ≡ union_below f set n
    picking_past w h = finish n p.within (λ i l. w.lower i (omega arith))

    pub picking_next : {s r m' : ℕ} → Lowest left s r → s < n → m' ≡ bit_or m (f s) → Picking f n set m' r
    unfolding union_below
    picking_next {s} {r} {m'} w h e =
        record {
          upto = suc s;
          within = h;
          others = λ i l. w.others i l ∙ p.others i (omega (arith, from));
          gone = λ i l. w.gone i (le_of_suc-le-suc l);
          sum =
              let one : bit set s ≡ 1 = sym (p.others s from) ∙ w.is in
              rw (one, one-mul, ← finish s from w.lower) e;
          fits = omega (arith, p.fits, w.less);
        }
      where
        from : p.upto ≤ s
        from = pick (dec_lt s p.upto)
          where
            pick : Dec (s < p.upto) → p.upto ≤ s
            pick (yes b) = absurd (let z = p.gone s b in let o = w.is in omega arith)
            pick (no b) = omega arith
