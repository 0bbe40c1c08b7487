-- The lowest state of a set that is not empty, as the code finds it: by trailing zeros, and n & (n - 1) for the rest. Assumes nothing.
use mathlib.Core.Path.{◌≡◌, refl, sym, ap, ap₂, ◌∙◌, subst}
use mathlib.Core.Logic.{◌↔◌, ⊎_elim}
use Prim.Native.Nat.{ℕ, zero, suc, ◌+◌, ◌-◌, ◌*◌, ◌/◌, ◌%◌, ◌^◌, ◌≤◌, ◌<◌, min}
use native.Mathlib.Nat.{one-mul, zero-mul, zero-div, add-mul, add-zero, lt_of_not-le, lt_of_lt_of_le, le_trans, pow-suc, mul_assoc, mul_comm, mod-lt, lt_irrefl, eq-or-lt_of_le}
use native.Mathlib.Decide.{dec_lt}
use native.Mathlib.Numerals.{add-one}
use native.Mathlib.Omega.{arith}
use lib.Dec.{lit<}
use lib.Pow.{pow-add, pow_pos, pow_mono, shl-shr, shr-shr, shr_lt, ones_lt}
use lib.Bits.{bit_and, and_step, and_self, and_block, and_zero_l}
use lib.Count.{count_trailing_zeros, under}
use Rattle.sets.specs.Sets.{bit, Has}

-- ---- parity

even : (m : ℕ) → m * 2 % 2 ≡ 0
even m = omega arith

odd : (m : ℕ) → (m * 2 + 1) % 2 ≡ 1
odd m = omega arith

half_even : (m : ℕ) → m * 2 / 2 ≡ m
half_even m = omega arith

half_odd : (m : ℕ) → (m * 2 + 1) / 2 ≡ m
half_odd m = omega arith

-- an odd multiple of p is an even one and p more
odd_parts : (m p : ℕ) → (m * 2 + 1) * p ≡ m * 2 * p + p
odd_parts m p = add-mul (m * 2) 1 p ∙ ap (λ (x : ℕ). m * 2 * p + x) (one-mul p)

-- ---- a number is an odd one times a power of two

half_lt : {n : ℕ} (k : ℕ) → n < 2 ^ suc k → n / 2 < 2 ^ k
half_lt {n} k h = shr_lt k 1 (subst (λ (x : ℕ). n < 2 ^ x) (sym (add-one k)) h)

step : (n d t : ℕ) → n % 2 ≡ d → d < 2 → (zero < n / 2 → (m : ℕ) × (n / 2 ≡ (m * 2 + 1) * 2 ^ t)) → zero < n → (m : ℕ) × (n ≡ (m * 2 + 1) * 2 ^ under d t)
step n zero t e l ih pos =
    let q = ih (omega (arith, e, pos)) in
    (q.0, omega (arith, e) ∙ ap (λ (x : ℕ). x * 2) q.1 ∙ mul_assoc (q.0 * 2 + 1) (2 ^ t) 2 ∙ ap (λ (x : ℕ). (q.0 * 2 + 1) * x) (sym (pow-suc 2 t)))
step n (suc zero) t e l ih pos = (n / 2, omega (arith, e))
step n (suc (suc d)) t e l ih pos = absurd (omega (arith, l))

lowest_odd : (k n : ℕ) → zero < n → n < 2 ^ k → (m : ℕ) × (n ≡ (m * 2 + 1) * 2 ^ count_trailing_zeros k n)
unfolding count_trailing_zeros
lowest_odd zero n pos h = absurd (omega (arith, pos, h))
lowest_odd (suc k) n pos h = step n (n % 2) (count_trailing_zeros k (n / 2)) refl (mod-lt n (lit< tt)) (λ p. lowest_odd k (n / 2) p (half_lt k h)) pos

-- an odd number loses its lowest digit
odd_and : (m : ℕ) → bit_and (m * 2 + 1) (m * 2) ≡ m * 2
odd_and m =
    and_step (m * 2 + 1) (m * 2)
    ∙ ap₂ (λ (x y : ℕ). x * 2 + y) (ap₂ bit_and (half_odd m) (half_even m) ∙ and_self m) (ap₂ min (odd m) (even m))
    ∙ add-zero (m * 2)

sum : (a p : ℕ) → zero < p → a + p - 1 ≡ a + (p - 1)
sum a p h = omega (arith, h)

back : (a p : ℕ) → a ≡ a + p - p
back a p = omega arith

drop_at : (m t : ℕ) → bit_and ((m * 2 + 1) * 2 ^ t) ((m * 2 + 1) * 2 ^ t - 1) ≡ (m * 2 + 1) * 2 ^ t - 2 ^ t
drop_at m t =
    ap₂ bit_and (sym (add-zero ((m * 2 + 1) * 2 ^ t))) (ap (λ (x : ℕ). x - 1) (odd_parts m (2 ^ t)) ∙ sum (m * 2 * 2 ^ t) (2 ^ t) (pow_pos t))
    ∙ and_block t (m * 2 + 1) (m * 2) 0 (2 ^ t - 1) (pow_pos t) (ones_lt t)
    ∙ ap₂ (λ (x y : ℕ). x * 2 ^ t + y) (odd_and m) (and_zero_l (2 ^ t - 1))
    ∙ add-zero (m * 2 * 2 ^ t) ∙ back (m * 2 * 2 ^ t) (2 ^ t) ∙ ap (λ (x : ℕ). x - 2 ^ t) (sym (odd_parts m (2 ^ t)))

drop_lowest : (k n : ℕ) → zero < n → n < 2 ^ k → bit_and n (n - 1) ≡ n - 2 ^ count_trailing_zeros k n
drop_lowest k n pos h =
    let q = lowest_odd k n pos h in
    ap (λ (x : ℕ). bit_and x (x - 1)) q.1 ∙ drop_at q.0 (count_trailing_zeros k n) ∙ ap (λ (x : ℕ). x - 2 ^ count_trailing_zeros k n) (sym q.1)

-- the place of the lowest set bit is below the width
pub lowest_lt : (k n : ℕ) → zero < n → n < 2 ^ k → count_trailing_zeros k n < k
lowest_lt k n pos h =
    let q = lowest_odd k n pos h in
    lt_of_not-le (λ le. lt_irrefl n (lt_of_lt_of_le h (le_trans (pow_mono le) (subst (λ (x : ℕ). 2 ^ count_trailing_zeros k n ≤ x) (sym q.1) (one_le q.0 (2 ^ count_trailing_zeros k n))))))
  where
    one_le : (m p : ℕ) → p ≤ (m * 2 + 1) * p
    one_le m p = omega (arith, odd_parts m p)

-- ---- the bits of a * 2 ^ t

bit_below : (a s j : ℕ) → bit (a * 2 ^ (s + suc j)) s ≡ 0
bit_below a s j =
    let e : a * 2 ^ (s + suc j) ≡ a * 2 ^ j * 2 * 2 ^ s =
    ap (λ (x : ℕ). a * x) (pow-add 2 s (suc j) ∙ mul_comm (2 ^ s) (2 ^ suc j)) ∙ sym (mul_assoc a (2 ^ suc j) (2 ^ s))
    ∙ ap (λ (x : ℕ). a * x * 2 ^ s) (pow-suc 2 j) ∙ ap (λ (x : ℕ). x * 2 ^ s) (sym (mul_assoc a (2 ^ j) 2)) in
    ap (λ (x : ℕ). x / 2 ^ s % 2) e ∙ ap (λ (x : ℕ). x % 2) (shl-shr (a * 2 ^ j * 2) s) ∙ even (a * 2 ^ j)

bit_lower : (a t s : ℕ) → s < t → bit (a * 2 ^ t) s ≡ 0
bit_lower a t s h = subst (λ (x : ℕ). bit (a * 2 ^ x) s ≡ 0) (omega arith) (bit_below a s (t - s - 1))

bit_at : (q t : ℕ) → bit ((q * 2 + 1) * 2 ^ t) t ≡ 1
bit_at q t = ap (λ (x : ℕ). x % 2) (shl-shr (q * 2 + 1) t) ∙ odd q

-- above its lowest digit an odd number and the even one below it have the same bits
bit_over : (x t j : ℕ) → bit (x * 2 ^ t) (t + suc j) ≡ bit (x / 2) j
bit_over x t j =
    ap (λ (y : ℕ). y % 2) (sym (shr-shr (x * 2 ^ t) t (suc j)) ∙ ap (λ (y : ℕ). y / 2 ^ suc j) (shl-shr x t)
    ∙ ap (λ (y : ℕ). x / 2 ^ y) (omega arith) ∙ sym (shr-shr x 1 j))

bit_same : (q t s : ℕ) → t < s → bit ((q * 2 + 1) * 2 ^ t) s ≡ bit (q * 2 * 2 ^ t) s
bit_same q t s h =
    let j = s - t - 1 in
    let e : t + suc j ≡ s = omega arith in
    subst (λ (x : ℕ). bit ((q * 2 + 1) * 2 ^ t) x ≡ bit (q * 2 * 2 ^ t) x) e
    (bit_over (q * 2 + 1) t j ∙ ap (λ (y : ℕ). bit y j) (half_odd q ∙ sym (half_even q)) ∙ sym (bit_over (q * 2) t j))

-- the lowest set bit of n, and n without it
pub record Lowest (n s r : ℕ) : Type 0 where
  pub lower : (i : ℕ) → i < s → bit n i ≡ 0
  pub is : bit n s ≡ 1
  pub gone : (i : ℕ) → i ≤ s → bit r i ≡ 0
  pub others : (i : ℕ) → s < i → bit r i ≡ bit n i
  pub less : r < n

pub lowest_of : (n : ℕ) → 0 < n → n < 2 ^ 64 → Lowest n (count_trailing_zeros 64 n) (bit_and n (n - 1))
lowest_of n pos h =
    let s = count_trailing_zeros 64 n in
    let (q, e) = lowest_odd 64 n pos h in
    let parts : n ≡ q * 2 * 2 ^ s + 2 ^ s = e ∙ odd_parts q (2 ^ s) in
    let d : bit_and n (n - 1) ≡ q * 2 * 2 ^ s = drop_lowest 64 n pos h ∙ minus n (q * 2 * 2 ^ s) (2 ^ s) parts in
    make n q s (bit_and n (n - 1)) e d (minus_lt n (q * 2 * 2 ^ s) (2 ^ s) parts (pow_pos s))
  where
    minus : (n a p : ℕ) → n ≡ a + p → n - p ≡ a
    minus n a p e = omega arith

    minus_lt : (n a p : ℕ) → n ≡ a + p → 0 < p → a < n
    minus_lt n a p e h = omega arith

    top : (q s i : ℕ) → i ≤ s → bit (q * 2 * 2 ^ s) i ≡ 0
    top q s i l = ⊎_elim (λ (z : i ≡ s). rw z (ap (λ (x : ℕ). x % 2) (shl-shr (q * 2) s) ∙ even q)) (λ b. bit_lower (q * 2) s i b) (eq-or-lt_of_le l)

    make : (n q s r : ℕ) → n ≡ (q * 2 + 1) * 2 ^ s → r ≡ q * 2 * 2 ^ s → q * 2 * 2 ^ s < n → Lowest n s r
    make n q s r e d lt =
        record {
          lower = λ i l. rw e (bit_lower (q * 2 + 1) s i l);
          is = rw e (bit_at q s);
          gone = λ i l. rw d (top q s i l);
          others = λ i l. rw (d, e) (sym (bit_same q s i l));
          less = rw d lt;
        }

-- ---- a single state

-- the set of the one state s has that state and no other
pub single_members : (s t : ℕ) → Has (2 ^ s) t ↔ (t ≡ s)
single_members s t = (to, λ e. rw e (record { is_one = rw one-mul at (bit_at 0 s) }))
  where
    to : Has (2 ^ s) t → t ≡ s
    to h = pick (dec_lt t s) (dec_lt s t)
      where
        below : t < s → bit (2 ^ s) t ≡ 0
        below l = rw one-mul at (bit_lower 1 s t l)

        above : s < t → bit (2 ^ s) t ≡ 0
        above l = (rw (one-mul, zero-mul) at (bit_same 0 s t l)) ∙ ap (λ (x : ℕ). x % 2) (zero-div (2 ^ t))

        pick : Dec (t < s) → Dec (s < t) → t ≡ s
        pick (yes l) d = absurd (omega (arith, below l, h.is_one))
        pick (no f) (yes l) = absurd (omega (arith, above l, h.is_one))
        pick (no f) (no g) = omega arith
