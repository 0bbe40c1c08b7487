-- What the refusals of the reader and of the writer mean (the scope, §7 and §9).
--   RefusedAt room bytes w place   the reader's refusal w, for a row buffer of so many entries, stands at a place (`refusal_place`)
--   write_lines P x y room         the writer's lines in their order (`write_lines_lem`)
--   read_numbers, write_numbers    the numbers that the two refuse by (`read_number`, `write_number`)
use Rattle.std.specs.Prelude.{ℕ, ◌*◌, ◌<◌, ◌≤◌, List, [], ◌∷◌, ◌⊎◌, ◌≡◌, length, take, drop}
use Rattle.verdict.specs.Lines.{Lines}
use Rattle.verdict.specs.Lines.Lines.{none, line}
use Rattle.sets.specs.Sets.{Good}
use Rattle.pattern.specs.Pattern.{Pattern}
use Rattle.pattern.specs.Refusals.{MasksGood, shape_lines}
use Rattle.numbers.specs.Numbers.{number_at}
use Rattle.numbers.specs.Numbers.Number.{Value}
use Rattle.numbers.specs.Faults.{EndsEarly, Padded, TooBig}
use Rattle.patternfile.specs.PatternFile.{file_bytes}
use Rattle.patternfile.specs.Reader.{FileOf}

pub data RefusedAt (room : ℕ) (s : List ℕ) : ℕ → ℕ → Type 0 where
  -- 10 BAD-SIZE: n stands at byte 0 and is outside its range, or k at byte 1
  bad_states : {v next : ℕ} → number_at s 0 ≡ Value v next → (v < 1) ⊎ (64 < v) → RefusedAt room s 10 0
  bad_letters : {v next : ℕ} → number_at s 1 ≡ Value v next → (v < 1) ⊎ (32 < v) → RefusedAt room s 10 1
  -- 14 NO-ROOM: at the byte after k
  no_room : {n k : ℕ} → number_at s 0 ≡ Value n 1 → number_at s 1 ≡ Value k 2 → room < n * k → RefusedAt room s 14 2
  -- 12 BAD-SET: at the first byte of a number that has a bit n or above
  bad_set : {n v next place : ℕ} → number_at s 0 ≡ Value n 1 → number_at s place ≡ Value v next → (Good n v → ⊥) → RefusedAt room s 12 place
  -- 20 CUT, 21 PADDED, 23 TOO-BIG: at the first byte of the number, the data's length if no byte of it came
  cut : {place : ℕ} → EndsEarly 0 (drop place s) → RefusedAt room s 20 place
  padded : {place : ℕ} → Padded 0 (drop place s) → RefusedAt room s 21 place
  too_big : {place : ℕ} → TooBig 0 (drop place s) → RefusedAt room s 23 place
  -- 22 TAIL: at the first byte behind what is a whole file
  tail : {place : ℕ} (P : Pattern) (x y : ℕ) → place < length s → FileOf room (take place s) P x y → RefusedAt room s 22 place

-- 10, 11, 12, 14
abbrev pub write_lines : Pattern → ℕ → ℕ → ℕ → Lines
write_lines P x y room =
    shape_lines P (line 12 (MasksGood P × Good P.states x × Good P.states y) (line 14 (length (file_bytes P x y) ≤ room) none))

abbrev pub read_numbers : List ℕ
read_numbers = 10 ∷ 12 ∷ 14 ∷ 20 ∷ 21 ∷ 22 ∷ 23 ∷ []

abbrev pub write_numbers : List ℕ
write_numbers = 10 ∷ 11 ∷ 12 ∷ 14 ∷ []
