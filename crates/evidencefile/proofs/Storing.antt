-- The bytes of an evidence file by their parts, put one after the other.
use Prim.Native.Nat.{ℕ, ◌+◌}
use mathlib.Core.List.{List, ◌∷◌, ◌++◌}
use mathlib.Core.Path.{◌≡◌, refl, ap}
use native.Mathlib.Omega.{arith}
use lib.ListN.{length, length-append}
use Rattle.lent.proofs.Filling.{Splits}
use Rattle.numbers.specs.Numbers.{encode}
use Rattle.numbers.specs.Format.{encode_all}
use Rattle.numbers.proofs.Parts.{encode_append}
use Rattle.patternfile.specs.PatternFile as PatternFile
use Rattle.evidence.specs.Evidence.{Offer}
use Rattle.evidencefile.specs.EvidenceFile.{alternating, file_bytes}
use Rattle.evidencefile.proofs.Sides.{sides_size}

module _ (o : Offer) where
  abbrev part : List ℕ
  part = PatternFile.file_bytes o.pattern o.x o.y

  abbrev pairs : List ℕ
  pairs = encode_all (alternating o.lefts o.rights)

  pub part_first : Splits (file_bytes o) part (encode (length o.lefts) ++ pairs)
  unfolding file_bytes PatternFile.file_bytes encode_all
  part_first = record { parts = encode_append (PatternFile.numbers_of o.pattern o.x o.y) (length o.lefts ∷ alternating o.lefts o.rights) }

  pub count_then : Splits (encode (length o.lefts) ++ pairs) (encode (length o.lefts)) pairs
  count_then = record { parts = refl }

  pub parts_size : length (file_bytes o) ≡ length part + length (encode (length o.lefts)) + length pairs
  parts_size = omega (arith, ap length part_first.parts, length-append part (encode (length o.lefts) ++ pairs), length-append (encode (length o.lefts)) pairs)

  -- the two sides take as many bytes one after the other
  pub sizes_add : length o.lefts ≡ length o.rights
      → length part + length (encode (length o.lefts)) + length (encode_all o.lefts) + length (encode_all o.rights) ≡ length (file_bytes o)
  sizes_add e = omega (arith, parts_size, sides_size o.lefts o.rights e)
