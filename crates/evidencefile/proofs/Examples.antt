-- Evidence files computed by the definitions: the scope's own, and one for each order that could be got wrong.
use mathlib.Core.List.{[], ◌∷◌}
use mathlib.Core.Path.{◌≡◌, refl}
use Prim.Native.Nat.{ℕ}
use Rattle.verdict.specs.Tests.{need, in_order}
use Rattle.pattern.specs.Tests.{size_test, set_test, space_test}
use Rattle.numbers.specs.Numbers.{byte_test, groups, number_at}
use Rattle.numbers.specs.Format.{many, got, refused, reading, file_reading}
use Rattle.patternfile.specs.PatternFile.{pattern_then}
use Rattle.evidencefile.specs.EvidenceFile.{Rooms, count_test, pair_room_test, pairs_format, evidence_format}

abbrev rooms : ℕ → ℕ → ℕ → Rooms
rooms rows lefts rights = record { rows = rows; lefts = lefts; rights = rights }

-- one state, one letter that stays there; one pair, its left before its right
pub one_pair : file_reading (evidence_format (rooms 1 1 1)) (0x01 ∷ 0x01 ∷ 0x01 ∷ 0x01 ∷ 0x01 ∷ 0x00 ∷ 0x01 ∷ 0x01 ∷ 0x00 ∷ []) ≡ got (1 ∷ 1 ∷ 1 ∷ 1 ∷ 1 ∷ 0 ∷ 1 ∷ 1 ∷ 0 ∷ []) 9
unfolding file_reading evidence_format pattern_then pairs_format reading many number_at groups byte_test size_test set_test space_test count_test pair_room_test in_order need
one_pair = refl

-- a pattern file alone: CUT where its count would stand
pub no_count : file_reading (evidence_format (rooms 1 1 1)) (0x01 ∷ 0x01 ∷ 0x01 ∷ 0x01 ∷ 0x01 ∷ 0x01 ∷ []) ≡ refused 20 6
unfolding file_reading evidence_format pattern_then pairs_format reading many number_at groups byte_test size_test set_test space_test count_test pair_room_test in_order need
no_count = refl

-- no pairs at all need no side buffers
pub no_pairs : file_reading (evidence_format (rooms 1 0 0)) (0x01 ∷ 0x01 ∷ 0x01 ∷ 0x01 ∷ 0x01 ∷ 0x01 ∷ 0x00 ∷ []) ≡ got (1 ∷ 1 ∷ 1 ∷ 1 ∷ 1 ∷ 1 ∷ 0 ∷ []) 7
unfolding file_reading evidence_format pattern_then pairs_format reading many number_at groups byte_test size_test set_test space_test count_test pair_room_test in_order need
no_pairs = refl

-- 1,025 pairs: BAD-LIST at the count's first byte, before NO-ROOM behind it
pub list_first : file_reading (evidence_format (rooms 1 0 0)) (0x01 ∷ 0x01 ∷ 0x01 ∷ 0x01 ∷ 0x01 ∷ 0x01 ∷ 0x81 ∷ 0x08 ∷ []) ≡ refused 16 6
unfolding file_reading evidence_format pattern_then pairs_format reading many number_at groups byte_test size_test set_test space_test count_test pair_room_test in_order need
list_first = refl

-- 1,024 pairs: NO-ROOM at the byte after the count, before a CUT there
pub room_first : file_reading (evidence_format (rooms 1 1024 1023)) (0x01 ∷ 0x01 ∷ 0x01 ∷ 0x01 ∷ 0x01 ∷ 0x01 ∷ 0x80 ∷ 0x08 ∷ []) ≡ refused 14 8
unfolding file_reading evidence_format pattern_then pairs_format reading many number_at groups byte_test size_test set_test space_test count_test pair_room_test in_order need
room_first = refl

-- TAIL at the first byte behind the last pair
pub one_byte_more : file_reading (evidence_format (rooms 1 1 1)) (0x01 ∷ 0x01 ∷ 0x01 ∷ 0x01 ∷ 0x01 ∷ 0x00 ∷ 0x01 ∷ 0x01 ∷ 0x00 ∷ 0x02 ∷ []) ≡ refused 22 9
unfolding file_reading evidence_format pattern_then pairs_format reading many number_at groups byte_test size_test set_test space_test count_test pair_room_test in_order need
one_byte_more = refl
