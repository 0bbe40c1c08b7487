-- What the refusals of the reader and of the writer mean (the scope, §7 and §9).
--   RefusedAt rooms bytes w place   the reader's refusal w stands at a place (`refusal_place`)
--   write_lines o room              the writer's lines in their order (`write_lines_lem`)
--   read_numbers, write_numbers     the numbers that the two refuse by (`read_number`, `write_number`)
use Rattle.std.specs.Prelude.{ℕ, ◌<◌, ◌≤◌, List, [], ◌∷◌, ◌⊎◌, ◌≡◌, length, take, drop}
use Rattle.verdict.specs.Lines.{Lines}
use Rattle.verdict.specs.Lines.Lines.{none, line}
use Rattle.sets.specs.Sets.{Good}
use Rattle.sets.specs.Rooms.{max_room}
use Rattle.pattern.specs.Pattern.{Pattern}
use Rattle.pattern.specs.Refusals.{MasksGood, shape_lines}
use Rattle.numbers.specs.Numbers.{number_at}
use Rattle.numbers.specs.Numbers.Number.{Value}
use Rattle.numbers.specs.Faults.{EndsEarly, Padded, TooBig}
use Rattle.numbers.specs.Format.{refused, reading}
use Rattle.patternfile.specs.PatternFile.{pattern_format}
use Rattle.patternfile.specs.Parts.{PartOf}
use Rattle.patternfile.specs.Refusals as PatternFile
use Rattle.evidence.specs.Evidence.{Offer}
use Rattle.evidence.specs.Meaning.{PairsGood}
use Rattle.evidencefile.specs.EvidenceFile.{Rooms, file_bytes}
use Rattle.evidencefile.specs.Reader.{FileOf}

pub data RefusedAt (rooms : Rooms) (s : List ℕ) : ℕ → ℕ → Type 0 where
  -- among the pattern's numbers: as in a pattern file
  in_pattern : {w place : ℕ} → reading (pattern_format rooms.rows) s 0 ≡ refused w place → PatternFile.RefusedAt rooms.rows s w place → RefusedAt rooms s w place
  -- 16 BAD-LIST: the count is over 1,024: at its first byte, behind the pattern's numbers
  bad_list : {P : Pattern} {x y place v next : ℕ} → PartOf rooms.rows s P x y place → number_at s place ≡ Value v next → max_room < v → RefusedAt rooms s 16 place
  -- 14 NO-ROOM: at the byte after the count, where a side buffer is too short
  no_room : {P : Pattern} {x y end m place : ℕ} → PartOf rooms.rows s P x y end → number_at s end ≡ Value m place → (rooms.lefts < m) ⊎ (rooms.rights < m) → RefusedAt rooms s 14 place
  -- 12 BAD-SET: at the first byte of a side that has a bit n or above
  bad_set : {P : Pattern} {x y end v next place : ℕ} → PartOf rooms.rows s P x y end → number_at s place ≡ Value v next → (Good P.states v → ⊥) → RefusedAt rooms s 12 place
  -- 20 CUT, 21 PADDED, 23 TOO-BIG: at the first byte of the number, the data's length if no byte of it came
  cut : {place : ℕ} → EndsEarly 0 (drop place s) → RefusedAt rooms s 20 place
  padded : {place : ℕ} → Padded 0 (drop place s) → RefusedAt rooms s 21 place
  too_big : {place : ℕ} → TooBig 0 (drop place s) → RefusedAt rooms s 23 place
  -- 22 TAIL: at the first byte behind what is a whole file
  tail : {place : ℕ} (o : Offer) → place < length s → FileOf rooms (take place s) o → RefusedAt rooms s 22 place

-- 10, 11, 16, 12, 14
abbrev pub write_lines : Offer → ℕ → Lines
write_lines o room =
    shape_lines o.pattern
    (line 16 ((length o.lefts ≤ max_room) × (length o.lefts ≡ length o.rights))
    (line 12 (MasksGood o.pattern × PairsGood o)
    (line 14 (length (file_bytes o) ≤ room) none)))

abbrev pub read_numbers : List ℕ
read_numbers = 10 ∷ 12 ∷ 14 ∷ 16 ∷ 20 ∷ 21 ∷ 22 ∷ 23 ∷ []

abbrev pub write_numbers : List ℕ
write_numbers = 10 ∷ 11 ∷ 16 ∷ 12 ∷ 14 ∷ []
