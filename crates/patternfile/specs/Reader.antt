-- What reading a pattern file answers, and what it leaves in the row buffer lent.
--   with_rows f rows          the pattern of the numbers f with these rows; found_in P x y: the numbers of a pattern with X and Y
--   FileOf room bytes P x y   the bytes are the file of the pattern P with the sets X and Y (`accepted_valid`, `file_of`)
--   Reads bytes old r new     the reader's promise: the answer r, and the buffer `new` where it was `old`; nothing is left open
--                             (`reader_determined`), what is accepted is valid (`read_valid`), and a refusal stands where the scope says (`refusal_place`)
--   number_of r, values_of r   the number of an answer, and the values returned with it (`read_honest`)
--   IsRefused r               the answer is a refusal
use Rattle.std.specs.Prelude.{ℕ, ◌*◌, List, ◌≡◌, length, Result, Ok, Err}
use Rattle.verdict.specs.declared.Fault.{Fault}
use Rattle.verdict.specs.Refusals.{number}
use Rattle.lent.specs.Lent.{lay}
use Rattle.pattern.specs.Pattern.{Pattern, pattern_of}
use Rattle.numbers.specs.Format.{got, refused, file_reading}
use Rattle.patternfile.specs.declared.PatternNumbers.{PatternNumbers}
use Rattle.patternfile.specs.PatternFile.{numbers_of, pattern_format}

abbrev pub with_rows : PatternNumbers → List ℕ → Pattern
with_rows f rows = pattern_of f.states f.letters f.finals rows

-- the numbers of a pattern with two sets
abbrev pub found_in : Pattern → ℕ → ℕ → PatternNumbers
found_in P x y = record { states = P.states; letters = P.letters; finals = P.finals; x = x; y = y }

pub record FileOf (room : ℕ) (bytes : List ℕ) (P : Pattern) (x y : ℕ) : Type 0 where
  pub tabled : length P.rows ≡ P.states * P.letters
  pub read : file_reading (pattern_format room) bytes ≡ got (numbers_of P x y) (length bytes)

-- DONE: the rows lie over what was there, so the entries after them keep their content
pub record ReadDone (bytes old : List ℕ) (f : PatternNumbers) (new : List ℕ) : Type 0 where
  pub rows : List ℕ
  pub file : FileOf (length old) bytes (with_rows f rows) f.x f.y
  pub written : new ≡ lay rows old

-- a refusal: the first fault by place, and every row as it was
pub record ReadRefused (bytes old : List ℕ) (w place : ℕ) (new : List ℕ) : Type 0 where
  pub fault : file_reading (pattern_format (length old)) bytes ≡ refused w place
  pub unchanged : new ≡ old

abbrev pub Reads : List ℕ → List ℕ → Result PatternNumbers Fault → List ℕ → Type 0
Reads bytes old (Ok f) new = ReadDone bytes old f new
Reads bytes old (Err fault) new = ReadRefused bytes old (number fault.why) fault.place new

abbrev pub number_of : Result PatternNumbers Fault → ℕ
number_of (Ok f) = 7
number_of (Err fault) = number fault.why

-- n, k, finals, X, Y and the place: DONE has place 0, and a refusal returns 0 for all but its place
pub record Values : Type 0 where
  pub states : ℕ
  pub letters : ℕ
  pub finals : ℕ
  pub x : ℕ
  pub y : ℕ
  pub place : ℕ

abbrev pub values_of : Result PatternNumbers Fault → Values
values_of (Ok f) = record { states = f.states; letters = f.letters; finals = f.finals; x = f.x; y = f.y; place = 0 }
values_of (Err fault) = record { states = 0; letters = 0; finals = 0; x = 0; y = 0; place = fault.place }

abbrev pub IsRefused : Result PatternNumbers Fault → Type 0
IsRefused (Ok f) = ⊥
IsRefused (Err fault) = Unit {0}
