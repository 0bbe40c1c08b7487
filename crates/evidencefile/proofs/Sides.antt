-- The two sides of a list of pairs as they alternate in a file: their numbers and bytes, and the sides found again.
use Prim.Native.Nat.{ℕ, zero, suc, ◌+◌, ◌*◌}
use mathlib.Core.List.{List, [], ◌∷◌, ◌++◌}
use mathlib.Core.Path.{◌≡◌, refl, sym, ap, ◌∙◌}
use native.Mathlib.Omega.{arith}
use lib.ListN.{length, length-append}
use Rattle.lent.proofs.Filling.{Splits}
use Rattle.numbers.specs.Numbers.{encode}
use Rattle.numbers.specs.Format.{encode_all}
use Rattle.evidencefile.specs.EvidenceFile.{alternating}

pub alternating_length : (ls rs : List ℕ) → length ls ≡ length rs → length (alternating ls rs) ≡ 2 * length ls
unfolding alternating
alternating_length [] rs e = refl
alternating_length (l ∷ ls) [] e = absurd (omega (arith, e))
alternating_length (l ∷ ls) (r ∷ rs) e = omega (arith, alternating_length ls rs (omega (arith, e)))

-- ---- the sides found again

-- numbers of which the first two are a pair
pub record Split (ls rs : List ℕ) (l r : ℕ) (vs : List ℕ) : Type 0 where
  pub lefts : List ℕ
  pub rights : List ℕ
  pub are_lefts : ls ≡ l ∷ lefts
  pub are_rights : rs ≡ r ∷ rights
  pub paired : length lefts ≡ length rights
  pub rest : vs ≡ alternating lefts rights

pub split : (ls rs : List ℕ) (l r : ℕ) (vs : List ℕ) → length ls ≡ length rs → alternating ls rs ≡ l ∷ r ∷ vs → Split ls rs l r vs
unfolding alternating
split [] rs l r vs e h = absurd (omega (arith, ap length h))
split (a ∷ ls) [] l r vs e h = absurd (omega (arith, e))
split (a ∷ ls) (b ∷ rs) l r vs e h =
    let x : a ≡ l = cc in
    let y : b ≡ r = cc in
    let t : vs ≡ alternating ls rs = cc in
    record { lefts = ls; rights = rs; are_lefts = rw x refl; are_rights = rw y refl; paired = omega (arith, e); rest = t }

pub no_sides : (ls rs : List ℕ) → length ls ≡ length rs → alternating ls rs ≡ [] → (ls ≡ []) × (rs ≡ [])
unfolding alternating
no_sides [] [] e h = (refl, refl)
no_sides [] (r ∷ rs) e h = absurd (omega (arith, e))
no_sides (l ∷ ls) [] e h = absurd (omega (arith, e))
no_sides (l ∷ ls) (r ∷ rs) e h = absurd (omega (arith, ap length h))

pub same_sides : (ls rs ls' rs' : List ℕ) → length ls ≡ length rs → length ls' ≡ length rs' → alternating ls rs ≡ alternating ls' rs' → (ls ≡ ls') × (rs ≡ rs')
unfolding alternating
same_sides [] rs ls' rs' e e' h = let a = no_sides [] rs e refl in let b = no_sides ls' rs' e' (sym h) in (sym b.0, a.1 ∙ sym b.1)
same_sides (l ∷ ls) [] ls' rs' e e' h = absurd (omega (arith, e))
same_sides (l ∷ ls) (r ∷ rs) ls' rs' e e' h =
    let s : Split ls' rs' l r (alternating ls rs) = split ls' rs' l r (alternating ls rs) e' (sym h) in
    let (a, b) = same_sides ls rs s.lefts s.rights (omega (arith, e)) s.paired s.rest in
    (ap (λ (t : List ℕ). l ∷ t) a ∙ sym s.are_lefts, ap (λ (t : List ℕ). r ∷ t) b ∙ sym s.are_rights)

-- an even number of numbers is the two sides of so many pairs
pub record Parted (m : ℕ) (us : List ℕ) : Type 0 where
  pub lefts : List ℕ
  pub rights : List ℕ
  pub lefts_are : length lefts ≡ m
  pub rights_are : length rights ≡ m
  pub all : us ≡ alternating lefts rights

pub parted : (m : ℕ) (us : List ℕ) → length us ≡ 2 * m → Parted m us
unfolding alternating
parted zero [] e = record { lefts = []; rights = []; lefts_are = refl; rights_are = refl; all = refl }
parted zero (u ∷ us) e = absurd (omega (arith, e))
parted (suc m) [] e = absurd (omega (arith, e))
parted (suc m) (l ∷ []) e = absurd (omega (arith, e))
parted (suc m) (l ∷ r ∷ us) e =
    let p : Parted m us = parted m us (omega (arith, e)) in
    record {
      lefts = l ∷ p.lefts;
      rights = r ∷ p.rights;
      lefts_are = ap suc p.lefts_are;
      rights_are = ap suc p.rights_are;
      all = ap (λ (t : List ℕ). l ∷ r ∷ t) p.all;
    }

-- ---- their bytes

pub sides_size : (ls rs : List ℕ) → length ls ≡ length rs → length (encode_all (alternating ls rs)) ≡ length (encode_all ls) + length (encode_all rs)
unfolding alternating encode_all
sides_size [] [] e = refl
sides_size [] (r ∷ rs) e = absurd (omega (arith, e))
sides_size (l ∷ ls) [] e = absurd (omega (arith, e))
sides_size (l ∷ ls) (r ∷ rs) e =
    omega (
      arith,
      sides_size ls rs (omega (arith, e)),
      length-append (encode l) (encode r ++ encode_all (alternating ls rs)),
      length-append (encode r) (encode_all (alternating ls rs)),
      length-append (encode l) (encode_all ls),
      length-append (encode r) (encode_all rs),
    )

-- what is still to come of the pairs is the next one, left and right, and what comes then
pub pair_first : {all_ls all_rs ls rs : List ℕ} (l r : ℕ) → all_ls ≡ l ∷ ls → all_rs ≡ r ∷ rs → Splits (encode_all (alternating all_ls all_rs)) (encode l) (encode r ++ encode_all (alternating ls rs))
unfolding alternating encode_all
pair_first l r e f = record { parts = rw (e, f) refl }

pub right_then : (r : ℕ) (bytes : List ℕ) → Splits (encode r ++ bytes) (encode r) bytes
right_then r bytes = record { parts = refl }

pub pairs_none : {ls : List ℕ} (rs : List ℕ) → ls ≡ [] → encode_all (alternating ls rs) ≡ []
unfolding alternating encode_all
pairs_none rs e = rw e refl
