-- Nothing is against a pattern exactly where it is valid: each test, and the tests together. Assumes nothing.
use mathlib.Core.Path.{◌≡◌, refl, sym, ◌∙◌}
use mathlib.Core.Logic.{◌↔◌}
use mathlib.Core.Bool.{and-eq-true_iff}
use mathlib.Core.List.{List}
use Prim.Native.Nat.{ℕ, ◌*◌, ◌/◌, ◌^◌, ◌≤◌, ◌<◌}
use lib.Dec.{leb, ltb, eqb}
use native.Mathlib.Decide.{dec_lt, ℕ_discrete}
use native.Mathlib.Omega.{arith}
use borrow.Author.Tests.{leb-true, le-leb, ltb-true, lt-ltb, le-ltb, eqb-true, eq-eqb, ne_eqb}
use Rattle.verdict.specs.Verdict.Verdict.{Fine}
use Rattle.verdict.specs.Tests.{each}
use Rattle.verdict.proofs.Ordered.{need_holds, need_fine, order_fine}
use Rattle.verdict.proofs.Each.{each_fine}
use Rattle.sets.specs.Sets.{Good}
use Rattle.sets.proofs.Goodness.{good_shift}
use Rattle.pattern.specs.Pattern.{Pattern, Sized, Tabled, AllGood, Valid}
use Rattle.pattern.specs.Tests.{size_test, table_test, set_test, space_test, shape_test, masks_test, pattern_test}
use Rattle.pattern.specs.Refusals.{MasksGood}

pub size_fine : (most v : ℕ) → (size_test most v ≡ Fine) ↔ ((1 ≤ v) × (v ≤ most))
unfolding size_test
size_fine most v = (
  λ e. let (p, q) = (and-eq-true_iff (leb 1 v) (leb v most)).0 (need_fine _ 10 e) in (leb-true 1 v p, leb-true v most q),
  λ (p, q). need_holds _ 10 (rw (le-leb 1 v p, le-leb v most q) refl),
)

-- both numbers are in range
pub sized_exactly : {n k : ℕ} → (((1 ≤ n) × (n ≤ 64)) × ((1 ≤ k) × (k ≤ 32))) ↔ Sized n k
sized_exactly = (
  λ (n, k). record { some_state = n.0; states_fit = n.1; some_letter = k.0; letters_fit = k.1 },
  λ s. ((s.some_state, s.states_fit), (s.some_letter, s.letters_fit)),
)

pub sized_fine : {n k : ℕ} → size_test 64 n ≡ Fine → size_test 32 k ≡ Fine → Sized n k
sized_fine {n} {k} p q = sized_exactly.0 ((size_fine 64 n).0 p, (size_fine 32 k).0 q)

pub table_fine : (n k count : ℕ) → (table_test n k count ≡ Fine) ↔ (count ≡ n * k)
unfolding table_test
table_fine n k count = (λ e. eqb-true _ _ (need_fine _ 11 e), λ p. need_holds _ 11 (eq-eqb _ _ p))

pub set_fine : (n mask : ℕ) → (set_test n mask ≡ Fine) ↔ Good n mask
unfolding set_test
set_fine n mask = (λ e. record { below = ltb-true _ _ (need_fine _ 12 e) }, λ g. need_holds _ 12 (lt-ltb _ _ g.below))

pub space_fine : (places count : ℕ) → (space_test places count ≡ Fine) ↔ (count ≤ places)
unfolding space_test
space_fine places count = (λ e. leb-true _ _ (need_fine _ 14 e), λ h. need_holds _ 14 (le-leb _ _ h))

-- the code's test of a mask
pub set_shift : (n mask : ℕ) → ltb mask (2 ^ n) ≡ eqb (mask / 2 ^ n) 0
set_shift n mask = pick (ℕ_discrete (mask / 2 ^ n) 0)
  where
    pick : Dec (mask / 2 ^ n ≡ 0) → ltb mask (2 ^ n) ≡ eqb (mask / 2 ^ n) 0
    pick (yes z) = lt-ltb _ _ ((good_shift n mask).0 z).below ∙ sym (eq-eqb _ _ z)
    pick (no f) = le-ltb _ _ (high (dec_lt mask (2 ^ n))) ∙ sym (ne_eqb _ _ f)
      where
        high : Dec (mask < 2 ^ n) → 2 ^ n ≤ mask
        high (yes l) = absurd (f ((good_shift n mask).1 (record { below = l })))
        high (no g) = omega arith

pub sets_fine : (n : ℕ) (masks : List ℕ) → (each (set_test n) masks ≡ Fine) ↔ AllGood n masks
sets_fine n masks = (
  λ e i l. (set_fine n _).0 ((each_fine (set_test n) masks).0 e i l),
  λ f. (each_fine (set_test n) masks).1 (λ i l. (set_fine n _).1 (f i l)),
)

-- 10 and 11
pub shape_fine : (P : Pattern) → (shape_test P ≡ Fine) ↔ (Sized P.states P.letters × Tabled P)
unfolding shape_test
shape_fine P = (to, fro)
  where
    to : shape_test P ≡ Fine → Sized P.states P.letters × Tabled P
    to e =
        let (n, (k, (count, _))) = (order_fine _).0 e in
        (sized_fine n k, (table_fine _ _ _).0 count)

    fro : Sized P.states P.letters × Tabled P → shape_test P ≡ Fine
    fro (s, t) = (order_fine _).1 ((size_fine 64 _).1 (s.some_state, s.states_fit), ((size_fine 32 _).1 (s.some_letter, s.letters_fit), ((table_fine _ _ _).1 t, tt)))

-- 12 for the pattern's own masks
pub masks_fine : (P : Pattern) → (masks_test P ≡ Fine) ↔ MasksGood P
unfolding masks_test
masks_fine P = (
  λ e. let (finals, (rows, _)) = (order_fine _).0 e in ((set_fine _ _).0 finals, (sets_fine _ _).0 rows),
  λ (finals, rows). (order_fine _).1 ((set_fine _ _).1 finals, ((sets_fine _ _).1 rows, tt)),
)

pub pattern_valid : (P : Pattern) → (pattern_test P ≡ Fine) ↔ Valid P
unfolding pattern_test
pattern_valid P = (to, λ v. (order_fine _).1 ((shape_fine P).1 (v.sized, v.tabled), ((masks_fine P).1 (v.finals_good, v.rows_good), tt)))
  where
    to : pattern_test P ≡ Fine → Valid P
    to e =
        let (shape, (masks, _)) = (order_fine _).0 e in
        let (sized, tabled) = (shape_fine P).0 shape in
        let (finals, rows) = (masks_fine P).0 masks in
        record { sized = sized; tabled = tabled; finals_good = finals; rows_good = rows }
