-- What a decimal is: its digits, the most significant first, read back as the number. Assumes nothing.
use mathlib.Core.Path.{◌≡◌, refl, sym, ap, ◌∙◌}
use mathlib.Core.List.{List, [], ◌∷◌, ◌++◌}
use Prim.Native.Nat.{ℕ, zero, suc, ◌+◌, ◌*◌, ◌-◌, ◌/◌, ◌%◌, ◌^◌, ◌<◌, ◌≤◌}
use native.Mathlib.Decide.{dec_lt}
use native.Mathlib.Nat.{pow-suc, pow-zero}
use native.Mathlib.Omega.{arith}
use borrow.Author.Tests.{lt-ltb, le-ltb}
use lib.ListN.{length, get_or, length-append, get_or-append}
use lib.Seq.{get_or-append_seam}
use Rattle.lent.specs.declared.Page.{Page}
use Rattle.lent.specs.Page.{Puts}
use Rattle.lent.proofs.Filling.{puts_as, puts_then}
use Rattle.text.specs.Text.{word, digit, digits, decimal}

-- ---- one digit, or those of a tenth and then the last

digits_last : (m v : ℕ) → v < 10 → digits (suc m) v ≡ digit v ∷ []
unfolding digits
digits_last m v h = rw (lt-ltb v 10 h)

digits_more : (m v : ℕ) → 10 ≤ v → digits (suc m) v ≡ digits m (v / 10) ++ (digit (v % 10) ∷ [])
unfolding digits
digits_more m v h = rw (le-ltb v 10 h)

-- where m digits are enough, one more changes nothing
digits_enough : (m v : ℕ) → v < 10 ^ suc m → digits (suc m) v ≡ digits (suc (suc m)) v
digits_enough zero v h = let l : v < 10 = omega (arith, pow-suc 10 0, pow-zero 10) in digits_last 0 v l ∙ sym (digits_last 1 v l)
digits_enough (suc m) v h =
    elim (dec_lt v 10) [
      | yes l ↦ digits_last (suc m) v l ∙ sym (digits_last (suc (suc m)) v l)
      | no n ↦
          let l : 10 ≤ v = omega arith in
          digits_more (suc m) v l
          ∙ ap (λ (t : List ℕ). t ++ (digit (v % 10) ∷ [])) (digits_enough m (v / 10) (omega (arith, pow-suc 10 (suc m))))
          ∙ sym (digits_more (suc (suc m)) v l)
    ]

pub decimal_last : (v : ℕ) → v < 10 → decimal v ≡ digit v ∷ []
unfolding decimal
decimal_last v h = digits_last 19 v h

pub decimal_more : (v : ℕ) → v < 2 ^ 64 → 10 ≤ v → decimal v ≡ decimal (v / 10) ++ (digit (v % 10) ∷ [])
unfolding decimal
decimal_more v s h = digits_more 19 v h ∙ ap (λ (t : List ℕ). t ++ (digit (v % 10) ∷ [])) (digits_enough 18 (v / 10) (omega arith))

-- ---- what decimals have

digits_some : (m v : ℕ) → 0 < length (digits (suc m) v)
digits_some m v =
    elim (dec_lt v 10) [
      | yes l ↦ rw (digits_last m v l) (omega arith)
      | no n ↦ rw (digits_more m v (omega arith)) (omega (arith, length-append (digits m (v / 10)) (digit (v % 10) ∷ [])))
    ]

digits_short : (m v : ℕ) → length (digits m v) ≤ m
unfolding digits
digits_short zero v = omega arith
digits_short (suc m) v =
    elim (dec_lt v 10) [
      | yes l ↦ rw (digits_last m v l) (omega arith)
      | no n ↦
          rw (digits_more m v (omega arith))
          (omega (arith, digits_short m (v / 10), length-append (digits m (v / 10)) (digit (v % 10) ∷ [])))
    ]

pub decimal_some : (v : ℕ) → 0 < length (decimal v)
unfolding decimal
decimal_some v = digits_some 19 v

pub decimal_short : (v : ℕ) → length (decimal v) ≤ 20
unfolding decimal
decimal_short v = digits_short 20 v

-- what holds of one digit, and of a tenth's digits with one more, holds of every decimal
module _ (P : ℕ → List ℕ → Type 0) (one : (v : ℕ) → v < 10 → P v (digit v ∷ []))
    (more : (v : ℕ) (ds : List ℕ) → 10 ≤ v → P (v / 10) ds → P v (ds ++ (digit (v % 10) ∷ []))) where
  digits_ind : (m v : ℕ) → v < 10 ^ suc m → P v (digits (suc m) v)
  digits_ind zero v h = let l : v < 10 = omega (arith, pow-suc 10 0, pow-zero 10) in rw (digits_last 0 v l) (one v l)
  digits_ind (suc m) v h =
      elim (dec_lt v 10) [
        | yes l ↦ rw (digits_last (suc m) v l) (one v l)
        | no n ↦
            let l : 10 ≤ v = omega arith in
            rw (digits_more (suc m) v l) (more v (digits (suc m) (v / 10)) l (digits_ind m (v / 10) (omega (arith, pow-suc 10 (suc m)))))
      ]

  pub decimal_ind : (v : ℕ) → v < 2 ^ 64 → P v (decimal v)
  unfolding decimal
  decimal_ind v h = digits_ind 19 v (omega arith)

-- ---- the same, put on a page

pub last_length : (v : ℕ) → v < 10 → length (decimal v) ≡ 1
last_length v h = ap length (decimal_last v h)

pub more_length : (v : ℕ) → v < 2 ^ 64 → 10 ≤ v → length (decimal v) ≡ length (decimal (v / 10)) + 1
more_length v s h = ap length (decimal_more v s h) ∙ length-append (decimal (v / 10)) (digit (v % 10) ∷ [])

pub last_puts : {old new : Page} {v d : ℕ} → v < 10 → d ≡ digit v → Puts old (d ∷ []) new → Puts old (decimal v) new
last_puts {v = v} h e p = puts_as p (rw e (sym (decimal_last v h)))

pub more_puts : {old mid new : Page} {v d : ℕ} → v < 2 ^ 64 → 10 ≤ v → d ≡ digit (v % 10)
    → Puts old (decimal (v / 10)) mid → Puts mid (d ∷ []) new → Puts old (decimal v) new
more_puts {v = v} s h e p q = puts_as (puts_then p q) (rw e (sym (decimal_more v s h)))

-- ---- what decimals mean

-- digits read from the left, after the number n
abbrev pub read_on : ℕ → List ℕ → ℕ
read_on n [] = n
read_on n (b ∷ bs) = read_on (n * 10 + (b - 48)) bs

read_last : (n : ℕ) (bs : List ℕ) (b : ℕ) → read_on n (bs ++ (b ∷ [])) ≡ read_on n bs * 10 + (b - 48)
read_last n [] b = refl
read_last n (x ∷ bs) b = read_last (n * 10 + (x - 48)) bs b

-- reading the digits gives the number back
pub decimal_reads : (v : ℕ) → v < 2 ^ 64 → read_on 0 (decimal v) ≡ v
decimal_reads =
    decimal_ind (λ v ds. read_on 0 ds ≡ v) (λ v h. omega arith)
    (λ v ds h r. read_last 0 ds (digit (v % 10)) ∙ omega (arith, r))

-- so no two numbers have the same decimal
pub decimal_injective : (u v : ℕ) → u < 2 ^ 64 → v < 2 ^ 64 → decimal u ≡ decimal v → u ≡ v
decimal_injective u v g h e = sym (decimal_reads u g) ∙ ap (read_on 0) e ∙ decimal_reads v h

-- every byte is a digit
pub decimal_digits : (v : ℕ) → v < 2 ^ 64 → (i : ℕ) → i < length (decimal v) → (48 ≤ get_or (decimal v) i 0) × (get_or (decimal v) i 0 < 58)
decimal_digits = decimal_ind (λ v ds. (i : ℕ) → i < length ds → (48 ≤ get_or ds i 0) × (get_or ds i 0 < 58)) one more
  where
    one : (v : ℕ) → v < 10 → (i : ℕ) → i < 1 → (48 ≤ get_or (digit v ∷ []) i 0) × (get_or (digit v ∷ []) i 0 < 58)
    one v h zero l = (omega arith, omega arith)
    one v h (suc i) l = absurd (omega arith)

    more : (v : ℕ) (ds : List ℕ) → 10 ≤ v → ((i : ℕ) → i < length ds → (48 ≤ get_or ds i 0) × (get_or ds i 0 < 58)) → (i : ℕ)
        → i < length (ds ++ (digit (v % 10) ∷ [])) → (48 ≤ get_or (ds ++ (digit (v % 10) ∷ [])) i 0) × (get_or (ds ++ (digit (v % 10) ∷ [])) i 0 < 58)
    more v ds h r i l =
        elim (dec_lt i (length ds)) [
          | yes k ↦ rw (get_or-append ds (digit (v % 10) ∷ []) 0 i k) (r i k)
          | no n ↦
              let e : i ≡ length ds = omega (arith, length-append ds (digit (v % 10) ∷ [])) in
              rw (e, get_or-append_seam ds (digit (v % 10)) [] 0) (omega arith, omega arith)
        ]

-- no number but 0 begins with a zero
pub decimal_leads : (v : ℕ) → v < 2 ^ 64 → 0 < v → 48 < get_or (decimal v) 0 0
decimal_leads v s = (decimal_ind (λ v ds. (0 < length ds) × (0 < v → 48 < get_or ds 0 0)) (λ v h. (omega arith, λ p. omega arith)) more v s).1
  where
    more : (v : ℕ) (ds : List ℕ) → 10 ≤ v → (0 < length ds) × (0 < v / 10 → 48 < get_or ds 0 0)
        → (0 < length (ds ++ (digit (v % 10) ∷ []))) × (0 < v → 48 < get_or (ds ++ (digit (v % 10) ∷ [])) 0 0)
    more v ds h r =
        (omega (arith, r.0, length-append ds (digit (v % 10) ∷ [])), λ p. rw (get_or-append ds (digit (v % 10) ∷ []) 0 0 r.0) (r.1 (omega arith)))

-- the largest 64-bit number
pub decimal_largest : decimal 18446744073709551615 ≡ word "18446744073709551615"
unfolding decimal digits
decimal_largest = refl
