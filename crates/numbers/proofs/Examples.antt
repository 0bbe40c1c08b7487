-- The scope's examples of numbers, computed by the definitions.
use Prim.Native.Nat.{◌-◌, ◌^◌}
use mathlib.Core.List.{[], ◌∷◌}
use mathlib.Core.Path.{◌≡◌, refl}
use Rattle.verdict.specs.Tests.{need, in_order}
use Rattle.numbers.specs.Numbers.{encode_in, encode, byte_test, groups, number_at, read_at}
use Rattle.numbers.specs.Numbers.Number.{Value, Fault}
use Rattle.numbers.specs.Numbers.NumberRead.{Done}

-- 300 is AC 02
pub three_hundred : encode 300 ≡ 0xac ∷ 0x02 ∷ []
unfolding encode encode_in
three_hundred = refl

pub three_hundred_read : number_at (7 ∷ 0xac ∷ 0x02 ∷ 9 ∷ []) 1 ≡ Value 300 3
unfolding number_at groups byte_test in_order need
three_hundred_read = refl

-- 0 is the single byte 00
pub nought : encode 0 ≡ 0x00 ∷ []
unfolding encode encode_in
nought = refl

-- the largest number: ten bytes, the tenth 01
pub largest : encode (2 ^ 64 - 1) ≡ 0xff ∷ 0xff ∷ 0xff ∷ 0xff ∷ 0xff ∷ 0xff ∷ 0xff ∷ 0xff ∷ 0xff ∷ 0x01 ∷ []
unfolding encode encode_in
largest = refl

pub largest_read : number_at (0xff ∷ 0xff ∷ 0xff ∷ 0xff ∷ 0xff ∷ 0xff ∷ 0xff ∷ 0xff ∷ 0xff ∷ 0x01 ∷ []) 0 ≡ Value (2 ^ 64 - 1) 10
unfolding number_at groups byte_test in_order need
largest_read = refl

-- `80 00` is PADDED, place 0; `80` alone CUT, place 0
pub padded : number_at (0x80 ∷ 0x00 ∷ []) 0 ≡ Fault 21 0
unfolding number_at groups byte_test in_order need
padded = refl

pub cut : number_at (0x80 ∷ []) 0 ≡ Fault 20 0
unfolding number_at groups byte_test in_order need
cut = refl

-- where no byte of a number came, CUT stands at the data's length
pub none_came : number_at (0x05 ∷ []) 1 ≡ Fault 20 1
unfolding number_at groups
none_came = refl

-- ten bytes 80 are TOO-BIG; nine and the end are CUT; a tenth byte 02 is TOO-BIG, and 00 PADDED
pub ten : number_at (0x80 ∷ 0x80 ∷ 0x80 ∷ 0x80 ∷ 0x80 ∷ 0x80 ∷ 0x80 ∷ 0x80 ∷ 0x80 ∷ 0x80 ∷ []) 0 ≡ Fault 23 0
unfolding number_at groups byte_test in_order need
ten = refl

pub nine : number_at (0x80 ∷ 0x80 ∷ 0x80 ∷ 0x80 ∷ 0x80 ∷ 0x80 ∷ 0x80 ∷ 0x80 ∷ 0x80 ∷ []) 0 ≡ Fault 20 0
unfolding number_at groups byte_test in_order need
nine = refl

pub tenth_two : number_at (0x80 ∷ 0x80 ∷ 0x80 ∷ 0x80 ∷ 0x80 ∷ 0x80 ∷ 0x80 ∷ 0x80 ∷ 0x80 ∷ 0x02 ∷ []) 0 ≡ Fault 23 0
unfolding number_at groups byte_test in_order need
tenth_two = refl

pub tenth_nought : number_at (0x80 ∷ 0x80 ∷ 0x80 ∷ 0x80 ∷ 0x80 ∷ 0x80 ∷ 0x80 ∷ 0x80 ∷ 0x80 ∷ 0x00 ∷ []) 0 ≡ Fault 21 0
unfolding number_at groups byte_test in_order need
tenth_nought = refl

-- 300 takes two bytes, wherever it stands
pub three_hundred_takes : read_at (7 ∷ 0xac ∷ 0x02 ∷ 9 ∷ []) 1 ≡ Done 300 2
unfolding read_at groups byte_test in_order need
three_hundred_takes = refl
