-- The bytes of a file by their three parts, put one after the other.
use Prim.Native.Nat.{ℕ, ◌+◌, ◌*◌, ◌≤◌}
use mathlib.Core.List.{List, [], ◌∷◌, ◌++◌}
use mathlib.Core.Path.{◌≡◌, refl, ap, ◌∙◌}
use native.Mathlib.Omega.{arith}
use lib.ListN.{length, length-append}
use Rattle.lent.proofs.Filling.{Splits}
use Rattle.pattern.specs.Pattern.{Pattern}
use Rattle.numbers.specs.Format.{encode_all}
use Rattle.numbers.proofs.ListLoops.{all_ten}
use Rattle.numbers.proofs.Parts.{encode_append}
use Rattle.patternfile.specs.PatternFile.{file_bytes}

module _ (P : Pattern) (x y : ℕ) where
  abbrev head : List ℕ
  head = P.states ∷ P.letters ∷ P.finals ∷ []

  abbrev starts : List ℕ
  starts = x ∷ y ∷ []

  pub head_first : Splits (file_bytes P x y) (encode_all head) (encode_all P.rows ++ encode_all starts)
  unfolding file_bytes
  head_first = record { parts = encode_append head (P.rows ++ starts) ∙ ap (λ (l : List ℕ). encode_all head ++ l) (encode_append P.rows starts) }

  pub rows_then : Splits (encode_all P.rows ++ encode_all starts) (encode_all P.rows) (encode_all starts)
  rows_then = record { parts = refl }

  pub parts_size : length (encode_all head) + length (encode_all P.rows) + length (encode_all starts) ≡ length (file_bytes P x y)
  parts_size =
      omega (arith, ap length head_first.parts, length-append (encode_all head) (encode_all P.rows ++ encode_all starts), length-append (encode_all P.rows) (encode_all starts))

  -- ten bytes for each number at most
  pub part_ten : length (file_bytes P x y) ≤ 10 * length P.rows + 50
  part_ten = omega (arith, parts_size, all_ten P.rows, all_ten head, all_ten starts)
