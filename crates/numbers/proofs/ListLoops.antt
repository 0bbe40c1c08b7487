-- The bytes of a list of numbers, number by number.
use Prim.Native.Nat.{ℕ, ◌+◌, ◌*◌, ◌<◌, ◌≤◌}
use mathlib.Core.List.{List, [], ◌∷◌}
use mathlib.Core.Path.{◌≡◌, refl, ap, ◌∙◌}
use native.Mathlib.Numerals.{add-one}
use native.Mathlib.Omega.{arith}
use lib.ListN.{length, drop, get_or, length-append, drop_of_length-le}
use lib.Seq.{drop-cons}
use Rattle.std.specs.List.{sum_by}
use Rattle.std.proofs.lemmas.List.Recursion.{is_sum_by}
use Rattle.lent.proofs.Filling.{Splits}
use Rattle.numbers.specs.Numbers.{encode}
use Rattle.numbers.specs.Format.{encode_all}
use Rattle.numbers.proofs.TenBytes.{encode_ten}

-- ten bytes for each number at most
pub all_ten : (vs : List ℕ) → length (encode_all vs) ≤ 10 * length vs
unfolding encode_all
all_ten [] = omega arith
all_ten (v ∷ vs) = omega (arith, all_ten vs, encode_ten v, length-append (encode v) (encode_all vs))

-- they are as many as those of each number together
pub all_sum : (vs : List ℕ) → length (encode_all vs) ≡ sum_by (λ v. length (encode v)) vs
unfolding encode_all
all_sum vs = is_sum_by (λ l. length (encode_all l)) (λ v. length (encode v)) refl (λ v l. length-append (encode v) (encode_all l)) vs

-- what is left of a list is its next number and what is left then
pub all_step : (list : List ℕ) (i : ℕ) → i < length list → Splits (encode_all (drop i list)) (encode (get_or list i 0)) (encode_all (drop (i + 1) list))
unfolding encode_all
all_step list i h = record { parts = ap encode_all (drop-cons list i 0 h) ∙ rw add-one }

pub all_none : (list : List ℕ) (i : ℕ) → length list ≤ i → encode_all (drop i list) ≡ []
unfolding encode_all
all_none list i h = ap encode_all (drop_of_length-le list h)
