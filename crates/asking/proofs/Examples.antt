-- What two inputs ask. Assumes nothing.
use mathlib.Core.Path.{refl}
use mathlib.Core.List.{List, [], ◌∷◌}
use Prim.Native.Nat.{ℕ}
use Rattle.verdict.specs.Tests.{need, in_order}
use Rattle.pattern.specs.Tests.{size_test, set_test, space_test}
use Rattle.numbers.specs.Numbers.{byte_test, groups, number_at}
use Rattle.numbers.specs.Format.{many, reading, file_reading}
use Rattle.patternfile.specs.PatternFile.{pattern_then, pattern_format}
use Rattle.patternfile.proofs.Examples.{no_bytes}
use Rattle.walk.specs.Known.{A}
use Rattle.asking.specs.Asking.{Asks, Refuses}

-- no byte at all: CUT at place 0
pub no_input : Refuses [] 20 0
no_input = no_bytes

-- the file of the scope's first question (§11)
abbrev pub pattern_a : List ℕ
pattern_a = 0x03 ∷ 0x01 ∷ 0x05 ∷ 0x02 ∷ 0x01 ∷ 0x04 ∷ 0x01 ∷ 0x04 ∷ []

pub asks_a : Asks pattern_a (A 1 4)
unfolding file_reading pattern_format pattern_then reading many number_at groups byte_test size_test set_test space_test in_order need
asks_a = record { tabled = refl; read = refl }
