-- The tests of a pattern, each with the scope's number (§7). A call makes them in the order 10, 11, .., 12, with its own tests between.
use Rattle.std.specs.Prelude.{◌&&◌, [], ◌∷◌, ℕ, ◌*◌, ◌^◌, length, leb, ltb, eqb}
use Rattle.verdict.specs.Verdict.{Verdict}
use Rattle.verdict.specs.Tests.{need, in_order, each}
use Rattle.pattern.specs.Pattern.{Pattern}

-- 10 BAD-SIZE: a number of states or letters is from 1 to the most allowed
unfoldable pub size_test : ℕ → ℕ → Verdict
size_test most v = need (leb 1 v && leb v most) 10

-- 11 BAD-TABLE: the rows lent are n * k in number
unfoldable pub table_test : ℕ → ℕ → ℕ → Verdict
table_test n k count = need (eqb count (n * k)) 11

-- 12 BAD-SET: the mask has no bit n or above
unfoldable pub set_test : ℕ → ℕ → Verdict
set_test n mask = need (ltb mask (2 ^ n)) 12

-- 14 NO-ROOM: a buffer of so many places has room for so many values
unfoldable pub space_test : ℕ → ℕ → Verdict
space_test places count = need (leb count places) 14

-- 10 and 11, which every call looks at first
unfoldable pub shape_test : Pattern → Verdict
shape_test P = in_order (size_test 64 P.states ∷ size_test 32 P.letters ∷ table_test P.states P.letters (length P.rows) ∷ [])

-- 12 for the pattern's own masks: the finals and all rows, reachable or not
unfoldable pub masks_test : Pattern → Verdict
masks_test P = in_order (set_test P.states P.finals ∷ each (set_test P.states) P.rows ∷ [])

-- nothing is against a pattern exactly where it is `Valid` (the law `pattern_valid`)
unfoldable pub pattern_test : Pattern → Verdict
pattern_test P = in_order (shape_test P ∷ masks_test P ∷ [])
