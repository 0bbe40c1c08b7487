-- The two round trips of one number: what was written reads as what it was, and what reads as a value is its bytes and no others.
use Prim.Native.Nat.{ℕ, zero, suc, ◌+◌, ◌*◌, ◌-◌, ◌/◌, ◌%◌, ◌^◌, ◌<◌, ◌≤◌}
use mathlib.Core.List.{List, [], ◌∷◌, ◌++◌}
use mathlib.Core.Path.{◌≡◌, refl, sym, ap, ◌∙◌}
use native.Mathlib.Decide.{dec_lt, ℕ_discrete}
use native.Mathlib.Nat.{pow-suc, pow-zero}
use native.Mathlib.Omega.{arith}
use lib.ListN.{length, drop}
use lib.Seq.{drop-drop, get_or-drop}
use Rattle.verdict.specs.Verdict.Verdict.{Fine}
use Rattle.numbers.specs.Numbers.{encode_in, encode, byte_test, Form, whole, faulty, more, groups, placed, number_at, AreBytes}
use Rattle.numbers.specs.Numbers.Number.{Value, Fault}
use Rattle.numbers.proofs.Groups.{faulty_whole, fine_zero, fine_tenth, fine_when, groups_none, groups_last, groups_more, groups_cases, encode_last, encode_more}

pow_pos : (m : ℕ) → 0 < 128 ^ m
pow_pos zero = omega (arith, pow-zero 128)
pow_pos (suc m) = let w : 0 < 128 ^ m = pow_pos m in omega (arith, pow-suc 128 m)

-- ---- reading what was written, from byte number i on, where m bytes more may follow the next

tenth_one : (m i v : ℕ) → i + m ≡ 9 → v < 2 * 128 ^ m → (0 < i → 0 < v) → 9 ≤ i → v ≡ 1
tenth_one zero i v e b p n = let w : 0 < v = p (omega arith) in omega (arith, pow-zero 128)
tenth_one (suc m) i v e b p n = absurd (omega arith)

zero_first : (i v : ℕ) → (0 < i → 0 < v) → v ≡ 0 → i ≡ 0
zero_first zero v p z = refl
zero_first (suc i) v p z = let w : 0 < v = p (omega arith) in absurd (omega arith)

read_last : (m i v : ℕ) (t : List ℕ) → i + m ≡ 9 → v < 2 * 128 ^ m → (0 < i → 0 < v) → v < 128
    → groups i (encode_in (suc m) v ++ t) ≡ whole v (length (encode_in (suc m) v))
read_last m i v t e b p l =
    let f : byte_test i v ≡ Fine = fine_when i v (zero_first i v p) (tenth_one m i v e b p) in
    rw (encode_last m v l) (groups_last i v t f l)

read_more : (m i v : ℕ) (t : List ℕ) → i + suc m ≡ 9 → 128 ≤ v
    → groups (suc i) (encode_in (suc m) (v / 128) ++ t) ≡ whole (v / 128) (length (encode_in (suc m) (v / 128)))
    → groups i (encode_in (suc (suc m)) v ++ t) ≡ whole v (length (encode_in (suc (suc m)) v))
read_more m i v t e l h =
    let f : byte_test i (128 + v % 128) ≡ Fine = fine_when i (128 + v % 128) (λ z. absurd (omega arith)) (λ n. absurd (omega arith)) in
    let k : 128 ≤ 128 + v % 128 = omega arith in
    let w : 128 + v % 128 - 128 + v / 128 * 128 ≡ v = omega arith in
    rw (encode_more (suc m) v l)
    (groups_more i (128 + v % 128) (encode_in (suc m) (v / 128) ++ t) f k
    ∙ ap (more (128 + v % 128 - 128)) h
    ∙ ap (λ (x : ℕ). whole x (suc (length (encode_in (suc m) (v / 128))))) w)

read_written : (m i v : ℕ) (t : List ℕ) → i + m ≡ 9 → v < 2 * 128 ^ m → (0 < i → 0 < v)
    → groups i (encode_in (suc m) v ++ t) ≡ whole v (length (encode_in (suc m) v))
read_written zero i v t e b p = read_last zero i v t e b p (omega (arith, pow-zero 128))
read_written (suc m) i v t e b p =
    elim (dec_lt v 128) [
      | yes l ↦ read_last (suc m) i v t e b p l
      | no l ↦
          read_more m i v t e (omega arith)
          (read_written m (suc i) (v / 128) t (omega arith) (omega (arith, pow-suc 128 m)) (λ q. omega arith))
    ]

-- ---- what reads as a value is its bytes

record Written (bs : List ℕ) (m i v n : ℕ) : Type 0 where
  bytes : bs ≡ encode_in (suc m) v ++ drop n bs
  taken : n ≡ length (encode_in (suc m) v)
  small : v < 2 * 128 ^ m
  some : 0 < i → 0 < v

last_small : (m i b : ℕ) → i + m ≡ 9 → byte_test i b ≡ Fine → b < 128 → b < 2 * 128 ^ m
last_small zero i b e f l = let w : b ≡ 1 = fine_tenth i b f (omega arith) in omega (arith, pow-zero 128)
last_small (suc m) i b e f l = omega (arith, pow-suc 128 m, pow_pos m)

written_last : (b : ℕ) (bs : List ℕ) (m i v n : ℕ) → i + m ≡ 9 → byte_test i b ≡ Fine → b < 128 → whole b 1 ≡ whole v n → Written (b ∷ bs) m i v n
written_last b bs m i v n e f l q =
    let x : v ≡ b = cc in
    let y : n ≡ 1 = cc in
    record {
      bytes = rw (x, y, encode_last m b l);
      taken = rw (x, y, encode_last m b l);
      small = rw x (last_small m i b e f l);
      some = λ p. elim (ℕ_discrete b 0) [ yes z ↦ absurd (let w : i ≡ 0 = fine_zero i b f z in omega arith) | no z ↦ omega arith ];
    }

written_more : (b : ℕ) (bs : List ℕ) (m i v n g k : ℕ) → i + suc m ≡ 9 → 128 ≤ b → b < 256
    → Written bs m (suc i) g k → whole (b - 128 + g * 128) (suc k) ≡ whole v n → Written (b ∷ bs) (suc m) i v n
written_more b bs m i v n g k e l u h q =
    let x : v ≡ b - 128 + g * 128 = cc in
    let y : n ≡ suc k = cc in
    let s : 0 < g = h.some (omega arith) in
    let r : 128 ≤ v = omega arith in
    let d : v / 128 ≡ g = omega arith in
    let o : 128 + v % 128 ≡ b = omega arith in
    record {
      bytes = rw (encode_more (suc m) v r, y, d, o) (ap (λ (z : List ℕ). b ∷ z) h.bytes);
      taken = rw (encode_more (suc m) v r, y, d) (ap suc h.taken);
      small = omega (arith, h.small, pow-suc 128 m);
      some = λ p. omega arith;
    }

written_step : (b : ℕ) (bs : List ℕ) (m i v n : ℕ) → i + m ≡ 9 → i < 9 → 128 ≤ b → b < 256
    → ((k g t : ℕ) → suc i + k ≡ 9 → groups (suc i) bs ≡ whole g t → Written bs k (suc i) g t)
    → (f : Form) → groups (suc i) bs ≡ f → more (b - 128) f ≡ whole v n → Written (b ∷ bs) m i v n
written_step b bs zero i v n e h l u r f d q = absurd (omega arith)
written_step b bs (suc m) i v n e h l u r (whole g t) d q = written_more b bs m i v n g t e l u (r m g t (omega arith) d) q
written_step b bs (suc m) i v n e h l u r (faulty w) d q = absurd (faulty_whole q)

written_read : (bs : List ℕ) (m i v n : ℕ) → i + m ≡ 9 → AreBytes bs → groups i bs ≡ whole v n → Written bs m i v n
written_read [] m i v n e a q = absurd (faulty_whole (sym (groups_none i) ∙ q))
written_read (b ∷ bs) m i v n e a q =
    groups_cases i b bs (λ f. f ≡ whole v n → Written (b ∷ bs) m i v n)
    (λ w j h. absurd (faulty_whole h))
    (λ j l h. written_last b bs m i v n e j l h)
    (λ j l k h. written_step b bs m i v n e k l (a.each 0) (λ p g t e' q'. written_read bs p (suc i) g t e' (record { each = λ x. a.each (suc x) }) q') (groups (suc i) bs) refl h)
    q

-- ---- THE ROUND TRIPS

-- reading what was written gives the value and the place after it, whatever stands before and after
pub read_after_write : (s : List ℕ) (at v : ℕ) (t : List ℕ) → v < 2 ^ 64 → drop at s ≡ encode v ++ t → number_at s at ≡ Value v (at + length (encode v))
unfolding number_at encode
read_after_write s at v t h e =
    ap (λ (l : List ℕ). placed at (groups 0 l)) e ∙ ap (placed at) (read_written 9 0 v t refl h (λ p. absurd (omega arith)))

-- v's bytes stand at a place, and next is the place after them
pub record Found (s : List ℕ) (at v next : ℕ) : Type 0 where
  pub bytes : drop at s ≡ encode v ++ drop next s
  pub after : next ≡ at + length (encode v)
  pub small : v < 2 ^ 64

pub fault_value : {v n w p : ℕ} → Fault w p ≡ Value v n → ⊥
fault_value h = let z : ◌≡◌ {A = ℕ} 0 1 = cc in omega arith

bytes_drop : (s : List ℕ) (at : ℕ) → AreBytes s → AreBytes (drop at s)
bytes_drop s at h = record { each = λ i. rw (get_or-drop at s i 0) (h.each (at + i)) }

-- what reads as v is v's bytes and no others, and v is below 2 ^ 64
pub write_after_read : (s : List ℕ) (at v next : ℕ) → AreBytes s → number_at s at ≡ Value v next → Found s at v next
unfolding number_at encode
write_after_read s at v next a h = go (groups 0 (drop at s)) refl h
  where
    go : (f : Form) → groups 0 (drop at s) ≡ f → placed at f ≡ Value v next → Found s at v next
    go (faulty w) e h = absurd (fault_value h)
    go (whole x n) e h =
        let i : x ≡ v = cc in
        let j : at + n ≡ next = cc in
        let r : Written (drop at s) 9 0 x n = written_read (drop at s) 9 0 x n refl (bytes_drop s at a) e in
        record {
          bytes = rw (← i, ← j) (r.bytes ∙ ap (λ (l : List ℕ). encode x ++ l) (drop-drop n at s));
          after = rw (← i, ← j) (ap (λ (k : ℕ). at + k) r.taken);
          small = rw (← i) r.small;
        }
