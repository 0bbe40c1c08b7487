-- What the bytes of a number badly written are worth: a needless group adds nothing, and a last tenth byte over 01 makes it too big.
use Prim.Native.Nat.{ℕ, zero, suc, ◌+◌, ◌*◌, ◌%◌, ◌^◌, ◌<◌, ◌≤◌}
use mathlib.Core.List.{List, [], ◌∷◌, ◌++◌}
use mathlib.Core.Path.{◌≡◌, sym, ap, ◌∙◌}
use native.Mathlib.Nat.{pow-suc, pow-zero, mul_assoc}
use native.Mathlib.Omega.{arith}
use lib.ListN.{take, get_or}
use lib.Seq.{take-suc, get_or-take}
use Rattle.numbers.specs.Faults.{Padded, TooBig, worth}

worth_nought : (bs : List ℕ) {b : ℕ} → b ≡ 0 → worth (bs ++ (b ∷ [])) ≡ worth bs
unfolding worth
worth_nought [] z = rw z
worth_nought (c ∷ bs) z = ap (λ (w : ℕ). c % 128 + w * 128) (worth_nought bs z)

-- the bytes of a PADDED number are worth what they are without the last of them
pub padded_is_needless : (bs : List ℕ) (h : Padded 0 bs) → worth (take (suc h.j) bs) ≡ worth (take h.j bs)
padded_is_needless bs h = ap worth (take-suc bs h.j 0 h.there) ∙ worth_nought (take h.j bs) h.bad.nothing

-- one group alone is worth so much
group_worth : (bs : List ℕ) (j : ℕ) → get_or bs j 0 % 128 * 128 ^ j ≤ worth bs
unfolding worth
group_worth [] j = omega arith
group_worth (b ∷ bs) zero = omega (arith, pow-zero 128)
group_worth (b ∷ bs) (suc j) =
    let g : ℕ = get_or bs j 0 % 128 in
    let h : g * 128 ^ j ≤ worth bs = group_worth bs j in
    let e : g * 128 ^ suc j ≡ g * 128 ^ j * 128 = ap (λ (x : ℕ). g * x) (pow-suc 128 j) ∙ sym (mul_assoc g (128 ^ j) 128) in
    omega arith

-- the ten bytes of a TOO-BIG number that ends with them are worth 2 ^ 64 or more
pub too_big_is_big : (bs : List ℕ) → TooBig 0 bs → get_or bs 9 0 < 128 → 2 ^ 64 ≤ worth (take 10 bs)
too_big_is_big bs h l =
    let j : h.j ≡ 9 = omega (arith, h.bad.tenth) in
    let b : 1 < get_or bs 9 0 = rw j at h.bad.other in
    let e : get_or (take 10 bs) 9 0 ≡ get_or bs 9 0 = get_or-take 10 bs 9 0 (omega arith) in
    let w : get_or (take 10 bs) 9 0 % 128 * 128 ^ 9 ≤ worth (take 10 bs) = group_worth (take 10 bs) 9 in
    omega arith
