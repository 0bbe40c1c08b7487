-- What the answers of the reader and of the writer mean, to a host that sees their numbers (the scope, §7 and §9).
--   Readable room bytes   the bytes are the file of a valid pattern with two sets of its states, and the rows have room
--   HonestRead            what an answer of the reader means (`read_honest`)
--   HonestWrite           what an answer of the writer means (`write_honest`)
use Rattle.std.specs.Prelude.{ℕ, ◌*◌, ◌≤◌, List, ◌↔◌, ◌≡◌, length, Result}
use Rattle.verdict.specs.declared.Refusal.{Refusal}
use Rattle.verdict.specs.declared.Fault.{Fault}
use Rattle.verdict.specs.Lines.{Applies}
use Rattle.lent.specs.Lent.{lay}
use Rattle.sets.specs.Sets.{Good}
use Rattle.pattern.specs.Pattern.{Pattern, Valid}
use Rattle.numbers.specs.Faults.{Stops}
use Rattle.patternfile.specs.declared.PatternNumbers.{PatternNumbers}
use Rattle.patternfile.specs.PatternFile.{file_bytes, pattern_format}
use Rattle.patternfile.specs.Reader as Reader
use Rattle.patternfile.specs.Reader.{Values, values_of}
use Rattle.patternfile.specs.Writer as Writer
use Rattle.patternfile.specs.Writer.{count_of, Allowed}
use Rattle.patternfile.specs.Refusals.{RefusedAt, write_lines}

pub record Readable (room : ℕ) (bytes : List ℕ) : Type 0 where
  pub pattern : Pattern
  pub x : ℕ
  pub y : ℕ
  pub valid : Valid pattern
  pub good_x : Good pattern.states x
  pub good_y : Good pattern.states y
  pub enough : pattern.states * pattern.letters ≤ room
  pub file : bytes ≡ file_bytes pattern x y

-- what is returned of a file
abbrev pub values_in : {room : ℕ} {bytes : List ℕ} → Readable room bytes → Values
values_in f = record { states = f.pattern.states; letters = f.pattern.letters; finals = f.pattern.finals; x = f.x; y = f.y; place = 0 }

-- what is returned of a refusal
abbrev pub values_at : ℕ → Values
values_at place = record { states = 0; letters = 0; finals = 0; x = 0; y = 0; place = place }

-- 7 DONE exactly where the bytes are a file, and then its values and rows are returned, and rows past n * k keep their content; a refusal, 10 and
-- up, exactly where reading stops, by its number and place, and then nothing is changed
pub record HonestRead (bytes old : List ℕ) (r : Result PatternNumbers Fault) (new : List ℕ) : Type 0 where
  pub done : (Reader.number_of r ≡ 7) ↔ Readable (length old) bytes
  pub returned : (f : Readable (length old) bytes) → (values_of r ≡ values_in f) × (new ≡ lay f.pattern.rows old)
  pub refused : Reader.IsRefused r ↔ (Readable (length old) bytes → ⊥)
  pub refused_by : (w place : ℕ) → (Reader.IsRefused r × (Reader.number_of r ≡ w) × ((values_of r).place ≡ place)) ↔ Stops (pattern_format (length old)) bytes 0 w place
  pub reason : Reader.IsRefused r → RefusedAt (length old) bytes (Reader.number_of r) (values_of r).place
  pub high : Reader.IsRefused r → 10 ≤ Reader.number_of r
  pub quiet : Reader.IsRefused r → (values_of r ≡ values_at (values_of r).place) × (new ≡ old)

-- 7 DONE exactly where nothing is refused, and then the file stands at the start of the buffer, and the bytes past its count keep their content; a
-- refusal, 10 and up, exactly where a line applies, by its number, and then nothing is changed
pub record HonestWrite (P : Pattern) (x y : ℕ) (old : List ℕ) (r : Result ℕ Refusal) (new : List ℕ) : Type 0 where
  pub done : (Writer.number_of r ≡ 7) ↔ Allowed P x y (length old)
  pub returned : Writer.number_of r ≡ 7 → (count_of r ≡ length (file_bytes P x y)) × (new ≡ lay (file_bytes P x y) old)
  pub refused : Writer.IsRefused r ↔ (Allowed P x y (length old) → ⊥)
  pub refused_by : (w : ℕ) → (Writer.IsRefused r × (Writer.number_of r ≡ w)) ↔ Applies (write_lines P x y (length old)) w
  pub high : Writer.IsRefused r → 10 ≤ Writer.number_of r
  pub quiet : Writer.IsRefused r → (count_of r ≡ 0) × (new ≡ old)
