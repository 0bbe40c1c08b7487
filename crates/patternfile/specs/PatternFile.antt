-- The pattern file (the scope, §9): numbers only, in this order: n, k, finals, the n * k rows, X, Y.
--   numbers_of P x y         the numbers of a file, in their order
--   file_bytes P x y         the bytes of these numbers
--   pattern_then room more   the numbers as a format, for a row buffer of so many entries, and then what may follow them, given n
--   pattern_format room      the pattern file: nothing follows (`no_longer`, `one_as_long`)
use Rattle.std.specs.Prelude.{ℕ, ◌*◌, List, [], ◌∷◌, ◌++◌}
use Rattle.pattern.specs.Pattern.{Pattern}
use Rattle.pattern.specs.Tests.{size_test, set_test, space_test}
use Rattle.numbers.specs.Format.{Format, ended, item, gate, many, encode_all}

abbrev pub numbers_of : Pattern → ℕ → ℕ → List ℕ
numbers_of P x y = P.states ∷ P.letters ∷ P.finals ∷ (P.rows ++ (x ∷ y ∷ []))

unfoldable pub file_bytes : Pattern → ℕ → ℕ → List ℕ
file_bytes P x y = encode_all (numbers_of P x y)

-- X and Y
abbrev pub starts_then : ℕ → Format → Format
starts_then n rest = item (set_test n) (λ x. item (set_test n) (λ y. rest))

-- the finals and the rows
abbrev pub sets_then : ℕ → ℕ → Format → Format
sets_then n k rest = item (set_test n) (λ finals. many (n * k) (set_test n) (starts_then n rest))

-- 14 NO-ROOM is judged after k and before finals
abbrev pub after_letters : ℕ → ℕ → ℕ → Format → Format
after_letters room n k rest = gate (space_test room (n * k)) (sets_then n k rest)

unfoldable pub pattern_then : ℕ → (ℕ → Format) → Format
pattern_then room more = item (size_test 64) (λ n. item (size_test 32) (λ k. after_letters room n k (more n)))

unfoldable pub pattern_format : ℕ → Format
pattern_format room = pattern_then room (λ n. ended)
