-- The evidence file (the scope, §9): the numbers of a pattern file, then how many pairs, then left and right of each pair.
--   Lists, Rooms             what is lent to who reads: rows, lefts and rights; and for how many numbers each has room
--   numbers_of o             the numbers of the file of an offer, in their order: the sides alternate
--   file_bytes o             the bytes of these numbers
--   pairs_format n l r       what stands behind the pattern's numbers, for sets of n states and side buffers of so many numbers
--   evidence_format rooms    the evidence file: the pattern file's format, continued (`no_longer`, `one_as_long`)
use Rattle.std.specs.Prelude.{ℕ, ◌*◌, ◌&&◌, List, [], ◌∷◌, ◌++◌, leb, length}
use Rattle.verdict.specs.Verdict.{Verdict}
use Rattle.verdict.specs.Tests.{need}
use Rattle.lent.specs.Lent.{lay}
use Rattle.sets.specs.Rooms.{max_room}
use Rattle.pattern.specs.Tests.{set_test}
use Rattle.numbers.specs.Format.{Format, ended, item, gate, many, encode_all}
use Rattle.patternfile.specs.PatternFile as PatternFile
use Rattle.patternfile.specs.PatternFile.{pattern_then}
use Rattle.evidence.specs.Evidence.{Offer}

pub record Rooms : Type 0 where
  pub rows : ℕ
  pub lefts : ℕ
  pub rights : ℕ

pub record Lists : Type 0 where
  pub rows : List ℕ
  pub lefts : List ℕ
  pub rights : List ℕ

abbrev pub lists_of : List ℕ → List ℕ → List ℕ → Lists
lists_of rows lefts rights = record { rows = rows; lefts = lefts; rights = rights }

abbrev pub rooms_of : Lists → Rooms
rooms_of old = record { rows = length old.rows; lefts = length old.lefts; rights = length old.rights }

-- an offer's rows and sides laid over what is lent
abbrev pub lay_offer : Offer → Lists → Lists
lay_offer o old = lists_of (lay o.pattern.rows old.rows) (lay o.lefts old.lefts) (lay o.rights old.rights)

-- left and right of each pair
unfoldable pub alternating : List ℕ → List ℕ → List ℕ
alternating [] rights = []
alternating (l ∷ lefts) [] = []
alternating (l ∷ lefts) (r ∷ rights) = l ∷ r ∷ alternating lefts rights

abbrev pub numbers_of : Offer → List ℕ
numbers_of o = PatternFile.numbers_of o.pattern o.x o.y ++ (length o.lefts ∷ alternating o.lefts o.rights)

unfoldable pub file_bytes : Offer → List ℕ
file_bytes o = encode_all (numbers_of o)

-- 16 BAD-LIST: at most as many pairs as the largest room
unfoldable pub count_test : ℕ → Verdict
count_test m = need (leb m max_room) 16

-- 14 NO-ROOM: both side buffers have room for so many numbers
unfoldable pub pair_room_test : ℕ → ℕ → ℕ → Verdict
pair_room_test lefts rights m = need (leb m lefts && leb m rights) 14

-- 14 NO-ROOM is judged after the count and before the first pair
unfoldable pub pairs_format : ℕ → ℕ → ℕ → Format
pairs_format n lefts rights = item count_test (λ m. gate (pair_room_test lefts rights m) (many (2 * m) (set_test n) ended))

unfoldable pub evidence_format : Rooms → Format
evidence_format rooms = pattern_then rooms.rows (λ n. pairs_format n rooms.lefts rooms.rights)
