-- One byte of a number after the other: what each clause of the definitions says.
use Prim.Native.Nat.{ℕ, suc, ◌+◌, ◌-◌, ◌/◌, ◌%◌, ◌<◌, ◌≤◌}
use mathlib.Core.Bool.{true, not, ◌||◌, false≢true}
use mathlib.Core.List.{List, [], ◌∷◌}
use mathlib.Core.Path.{◌≡◌, refl}
use native.Mathlib.Decide.{dec_lt, ℕ_discrete}
use native.Mathlib.Omega.{arith}
use lib.Dec.{ltb, eqb}
use lib.ListN.{length}
use borrow.Author.Tests.{lt-ltb, le-ltb, eq-eqb, ne_eqb}
use Rattle.verdict.specs.Verdict.{Verdict}
use Rattle.verdict.specs.Verdict.Verdict.{Fine, Against}
use Rattle.verdict.specs.Tests.{need, in_order}
use Rattle.verdict.proofs.Ordered.{need_fine, order_fine}
use Rattle.numbers.specs.Numbers.{encode_in, encode, byte_test, Form, whole, faulty, more, groups}

-- ---- one byte judged

pub faulty_whole : {w v n : ℕ} → faulty w ≡ whole v n → ⊥
faulty_whole p = let z : ◌≡◌ {A = ℕ} 0 1 = cc in omega arith

module _ (i b : ℕ) where
  -- a byte 0 that is fine stands first
  pub fine_zero : byte_test i b ≡ Fine → b ≡ 0 → i ≡ 0
  unfolding byte_test
  fine_zero h z = go (ℕ_discrete i 0) (need_fine (eqb i 0 || not (eqb b 0)) 21 ((order_fine _).0 h).0)
    where
      go : Dec (i ≡ 0) → (eqb i 0 || not (eqb b 0)) ≡ true → i ≡ 0
      go (yes e) t = e
      go (no n) t = absurd (false≢true (simp (ne_eqb i 0 n, eq-eqb b 0 z) at t))

  -- a tenth byte that is fine is 01
  pub fine_tenth : byte_test i b ≡ Fine → 9 ≤ i → b ≡ 1
  unfolding byte_test
  fine_tenth h n = go (ℕ_discrete b 1) (need_fine (ltb i 9 || eqb b 1) 23 ((order_fine _).0 h).1.0)
    where
      go : Dec (b ≡ 1) → (ltb i 9 || eqb b 1) ≡ true → b ≡ 1
      go (yes e) t = e
      go (no o) t = absurd (false≢true (simp (le-ltb i 9 n, ne_eqb b 1 o) at t))

  -- so a byte that another follows is none of the tenth and later
  pub fine_more : byte_test i b ≡ Fine → 128 ≤ b → i < 9
  fine_more h l = elim (dec_lt i 9) [ yes n ↦ n | no n ↦ absurd (let z : b ≡ 1 = fine_tenth h (omega arith) in omega arith) ]

  pub against_zero : 0 < i → b ≡ 0 → byte_test i b ≡ Against 21
  unfolding byte_test in_order need
  against_zero l z = let n : i ≡ 0 → ⊥ = λ e. omega arith in simp (ne_eqb i 0 n, eq-eqb b 0 z)

  pub against_tenth : 9 ≤ i → 1 < b → byte_test i b ≡ Against 23
  unfolding byte_test in_order need
  against_tenth l o =
      let n : i ≡ 0 → ⊥ = λ e. omega arith in
      let z : b ≡ 0 → ⊥ = λ e. omega arith in
      let u : b ≡ 1 → ⊥ = λ e. omega arith in
      simp (ne_eqb i 0 n, ne_eqb b 0 z, le-ltb i 9 l, ne_eqb b 1 u)

  pub fine_when : (b ≡ 0 → i ≡ 0) → (9 ≤ i → b ≡ 1) → byte_test i b ≡ Fine
  unfolding byte_test in_order need
  fine_when f t = go (ℕ_discrete i 0) (dec_lt i 9)
    where
      go : Dec (i ≡ 0) → Dec (i < 9) → byte_test i b ≡ Fine
      go (yes e) d = let l : i < 9 = omega arith in simp (eq-eqb i 0 e, lt-ltb i 9 l)
      go (no n) (yes l) = simp (ne_eqb i 0 n, ne_eqb b 0 (λ z. n (f z)), lt-ltb i 9 l)
      go (no n) (no l) =
          let r : 9 ≤ i = omega arith in
          simp (ne_eqb i 0 n, ne_eqb b 0 (λ z. n (f z)), le-ltb i 9 r, eq-eqb b 1 (t r))

-- ---- the bytes of a number

pub groups_none : (i : ℕ) → groups i [] ≡ faulty 20
unfolding groups
groups_none i = refl

module _ (i b : ℕ) (bs : List ℕ) where
  pub groups_bad : {w : ℕ} → byte_test i b ≡ Against w → groups i (b ∷ bs) ≡ faulty w
  unfolding groups
  groups_bad h = rw h

  pub groups_last : byte_test i b ≡ Fine → b < 128 → groups i (b ∷ bs) ≡ whole b 1
  unfolding groups
  groups_last h l = rw (h, lt-ltb b 128 l)

  pub groups_more : byte_test i b ≡ Fine → 128 ≤ b → groups i (b ∷ bs) ≡ more (b - 128) (groups (suc i) bs)
  unfolding groups
  groups_more h l = rw (h, le-ltb b 128 l)

-- what a first byte makes of a number, by its three cases
pub groups_cases : (i b : ℕ) (bs : List ℕ) (P : Form → Type 0)
    → ((w : ℕ) → byte_test i b ≡ Against w → P (faulty w))
    → (byte_test i b ≡ Fine → b < 128 → P (whole b 1))
    → (byte_test i b ≡ Fine → 128 ≤ b → i < 9 → P (more (b - 128) (groups (suc i) bs)))
    → P (groups i (b ∷ bs))
groups_cases i b bs P bad last goes = go (byte_test i b) refl
  where
    go : (v : Verdict) → byte_test i b ≡ v → P (groups i (b ∷ bs))
    go (Against w) e = rw (groups_bad i b bs e) (bad w e)
    go Fine e =
        elim (dec_lt b 128) [
          | yes l ↦ rw (groups_last i b bs e l) (last e l)
          | no l ↦ let k : 128 ≤ b = omega arith in rw (groups_more i b bs e k) (goes e k (fine_more i b e k))
        ]

pub encode_last : (m v : ℕ) → v < 128 → encode_in (suc m) v ≡ v ∷ []
unfolding encode_in
encode_last m v l = rw (lt-ltb v 128 l)

pub encode_more : (m v : ℕ) → 128 ≤ v → encode_in (suc m) v ≡ (128 + v % 128) ∷ encode_in m (v / 128)
unfolding encode_in
encode_more m v l = rw (le-ltb v 128 l)

pub encode_some : (m v : ℕ) → 0 < length (encode_in (suc m) v)
encode_some m v =
    elim (dec_lt v 128) [
      | yes l ↦ rw (encode_last m v l) (omega arith)
      | no l ↦ let k : 128 ≤ v = omega arith in rw (encode_more m v k) (omega arith)
    ]

-- a number below 128 is one byte, itself
pub one_byte : (v : ℕ) → v < 128 → encode v ≡ v ∷ []
unfolding encode
one_byte v l = encode_last 9 v l
