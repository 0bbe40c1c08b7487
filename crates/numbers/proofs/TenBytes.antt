-- A number is ten bytes at most, and reading one looks at no eleventh.
use Prim.Native.Nat.{ℕ, zero, suc, ◌+◌, ◌-◌, ◌/◌, ◌≤◌}
use mathlib.Core.List.{List, [], ◌∷◌}
use mathlib.Core.Path.{◌≡◌, sym, ap, ◌∙◌}
use native.Mathlib.Decide.{dec_lt}
use native.Mathlib.Omega.{arith}
use lib.ListN.{length, take, drop}
use lib.Seq.{take-nil}
use Rattle.numbers.specs.Numbers.{encode_in, encode, Form, more, groups, placed, number_at}
use Rattle.numbers.proofs.Groups.{groups_bad, groups_last, groups_more, groups_cases, encode_last, encode_more}

encode_few : (m v : ℕ) → length (encode_in m v) ≤ m
unfolding encode_in
encode_few zero v = omega arith
encode_few (suc m) v =
    elim (dec_lt v 128) [
      | yes l ↦ rw (encode_last m v l) (omega arith)
      | no l ↦
          let k : 128 ≤ v = omega arith in
          let h : length (encode_in m (v / 128)) ≤ m = encode_few m (v / 128) in
          rw (encode_more m v k) (omega arith)
    ]

pub encode_ten : (v : ℕ) → length (encode v) ≤ 10
unfolding encode
encode_ten v = encode_few 10 v

groups_first : (bs : List ℕ) (i c : ℕ) → i ≤ 9 → 10 ≤ i + c → groups i (take c bs) ≡ groups i bs
groups_first [] i c h k = ap (groups i) (take-nil c)
groups_first (b ∷ bs) i zero h k = absurd (omega arith)
groups_first (b ∷ bs) i (suc c) h k =
    groups_cases i b bs (λ (f : Form). groups i (b ∷ take c bs) ≡ f)
    (λ w q. groups_bad i b (take c bs) q)
    (λ q l. groups_last i b (take c bs) q l)
    (λ q l n. groups_more i b (take c bs) q l ∙ ap (more (b - 128)) (groups_first bs (suc i) c (omega arith) (omega arith)))

drop_take : (at d : ℕ) (s : List ℕ) → drop at (take (at + d) s) ≡ take d (drop at s)
drop_take zero d s = let e : 0 + d ≡ d = omega arith in rw e
drop_take (suc at) d [] = ap (drop (suc at)) (take-nil (suc at + d)) ∙ sym (take-nil d)
drop_take (suc at) d (x ∷ s) = let e : suc at + d ≡ suc (at + d) = omega arith in rw e (drop_take at d s)

-- what stands behind the ten bytes does not matter
pub ten_decide : (s : List ℕ) (at c : ℕ) → at + 10 ≤ c → number_at (take c s) at ≡ number_at s at
unfolding number_at
ten_decide s at c h =
    let e : c ≡ at + (c - at) = omega arith in
    ap (λ (n : ℕ). placed at (groups 0 (drop at (take n s)))) e
    ∙ ap (λ (l : List ℕ). placed at (groups 0 l)) (drop_take at (c - at) s)
    ∙ ap (placed at) (groups_first (drop at s) 0 (c - at) (omega arith) (omega arith))
