-- What people read, as bytes. The laws that say what each word means stand in proofs/.
--   word "SAME"   the bytes of a word, one for each ASCII character
--   decimal v     the 64-bit number v in decimal: its digits read back as v (`decimal_reads`, `decimal_injective`), each byte is a digit
--                 (`decimal_digits`), there are 1 to 20 of them (`decimal_some`, `decimal_short`), and none but 0 begins with a zero (`decimal_leads`)
--   spaced ws     each word with a space in front
--   joined ws     the words with single spaces between them
--   line ws       the words with single spaces between them, and a newline (`joined_one`, `joined_more`, `line_of_three`)
--   refusal_text number place
--                 the line of a refusal: `REFUSED`, its number and its place
use Rattle.std.specs.Prelude.{cond, List, [], ◌∷◌, ◌++◌, ℕ, zero, suc, ◌+◌, ◌/◌, ◌%◌, ltb}
use Prim.Native.Char.{code}
use Prim.Native.String.{String, [] as none, ◌∷◌ as ◌then◌}

abbrev pub word : String → List ℕ
word none = []
word (c then s) = code c ∷ word s

-- the digit of d, which is below 10
abbrev pub digit : ℕ → ℕ
digit d = code "0" + d

-- the digits of v, the most significant first, with no zero in front; the last m of them where it has more
unfoldable pub digits : ℕ → ℕ → List ℕ
digits zero v = []
digits (suc m) v = cond (ltb v 10) (digit v ∷ []) (digits m (v / 10) ++ (digit (v % 10) ∷ []))

-- twenty digits hold every 64-bit number (`decimal_largest`)
unfoldable pub decimal : ℕ → List ℕ
decimal v = digits 20 v

unfoldable pub spaced : List (List ℕ) → List ℕ
spaced [] = []
spaced (w ∷ ws) = (word " " ++ w) ++ spaced ws

unfoldable pub joined : List (List ℕ) → List ℕ
joined [] = []
joined (w ∷ ws) = w ++ spaced ws

unfoldable pub line : List (List ℕ) → List ℕ
line ws = joined ws ++ word "\n"

unfoldable pub refusal_text : ℕ → ℕ → List ℕ
refusal_text number place = line (word "REFUSED" ∷ decimal number ∷ decimal place ∷ [])
