-- Pattern files computed by the definitions: the scope's own, and one for each order that could be got wrong.
use mathlib.Core.List.{[], ◌∷◌}
use mathlib.Core.Path.{◌≡◌, refl}
use Rattle.verdict.specs.Tests.{need, in_order}
use Rattle.pattern.specs.Tests.{size_test, set_test, space_test}
use Rattle.numbers.specs.Numbers.{byte_test, groups, number_at}
use Rattle.numbers.specs.Format.{many, got, refused, reading, file_reading}
use Rattle.patternfile.specs.PatternFile.{pattern_then, pattern_format}

-- pattern A with the sets 1 and 4
pub pattern_a : file_reading (pattern_format 3) (0x03 ∷ 0x01 ∷ 0x05 ∷ 0x02 ∷ 0x01 ∷ 0x04 ∷ 0x01 ∷ 0x04 ∷ []) ≡ got (3 ∷ 1 ∷ 5 ∷ 2 ∷ 1 ∷ 4 ∷ 1 ∷ 4 ∷ []) 8
unfolding file_reading pattern_format pattern_then reading many number_at groups byte_test size_test set_test space_test in_order need
pattern_a = refl

-- bytes `80 00` as n are PADDED, place 0; `80` alone is CUT, place 0
pub padded_states : file_reading (pattern_format 2048) (0x80 ∷ 0x00 ∷ []) ≡ refused 21 0
unfolding file_reading pattern_format pattern_then reading number_at groups byte_test size_test in_order need
padded_states = refl

pub cut_states : file_reading (pattern_format 2048) (0x80 ∷ []) ≡ refused 20 0
unfolding file_reading pattern_format pattern_then reading number_at groups byte_test size_test in_order need
cut_states = refl

pub no_bytes : file_reading (pattern_format 2048) [] ≡ refused 20 0
unfolding file_reading pattern_format pattern_then reading number_at groups
no_bytes = refl

-- the earlier number decides: BAD-SIZE of n before PADDED of k
pub earlier_first : file_reading (pattern_format 2048) (0x41 ∷ 0x80 ∷ 0x00 ∷ []) ≡ refused 10 0
unfolding file_reading pattern_format pattern_then reading number_at groups byte_test size_test in_order need
earlier_first = refl

-- form before range: 82 00 is PADDED and no set of one state either
pub form_first : file_reading (pattern_format 2048) (0x01 ∷ 0x01 ∷ 0x82 ∷ 0x00 ∷ []) ≡ refused 21 2
unfolding file_reading pattern_format pattern_then reading number_at groups byte_test size_test set_test space_test in_order need
form_first = refl

-- NO-ROOM before a CUT at finals
pub room_first : file_reading (pattern_format 3) (0x02 ∷ 0x02 ∷ []) ≡ refused 14 2
unfolding file_reading pattern_format pattern_then reading number_at groups byte_test size_test space_test in_order need
room_first = refl

-- TAIL at the first extra byte
pub one_byte_more : file_reading (pattern_format 1) (0x01 ∷ 0x01 ∷ 0x00 ∷ 0x00 ∷ 0x00 ∷ 0x00 ∷ 0x00 ∷ []) ≡ refused 22 6
unfolding file_reading pattern_format pattern_then reading many number_at groups byte_test size_test set_test space_test in_order need
one_byte_more = refl
