-- What the parts of the reader and the writer promise, so that a longer file can begin with the pattern's numbers.
--   PartOf room bytes P x y end   the numbers of the pattern P with X and Y stand at the start of the bytes, and end is the place after them; what
--                                 follows is not looked at (`part_then`)
--   Judges bytes room r           the answer of the first pass
--   Passes read r                 the place after some numbers passed over, or the fault that reading them gives
--   Filled ..                     what the second pass leaves
use Rattle.std.specs.Prelude.{ℕ, ◌*◌, List, ◌≡◌, length, Result, Ok, Err}
use Rattle.verdict.specs.declared.Fault.{Fault}
use Rattle.verdict.specs.Verdict.{Verdict}
use Rattle.verdict.specs.Refusals.{number}
use Rattle.lent.specs.Lent.{lay}
use Rattle.pattern.specs.Pattern.{Pattern}
use Rattle.numbers.specs.Format.{ended, many, Reading, got, refused, reading}
use Rattle.patternfile.specs.declared.PatternPart.{PatternPart}
use Rattle.patternfile.specs.PatternFile.{numbers_of, pattern_format}
use Rattle.patternfile.specs.Reader.{with_rows}

pub record PartOf (room : ℕ) (bytes : List ℕ) (P : Pattern) (x y end : ℕ) : Type 0 where
  pub tabled : length P.rows ≡ P.states * P.letters
  pub read : reading (pattern_format room) bytes 0 ≡ got (numbers_of P x y) end

abbrev pub Judges : List ℕ → ℕ → Result PatternPart Fault → Type 0
Judges bytes room (Ok part) = (rows : List ℕ) × PartOf room bytes (with_rows part.numbers rows) part.numbers.x part.numbers.y part.end
Judges bytes room (Err fault) = reading (pattern_format room) bytes 0 ≡ refused (number fault.why) fault.place

abbrev pub Passes : Reading → Result ℕ Fault → Type 0
Passes read (Ok end) = (vs : List ℕ) × (read ≡ got vs end)
Passes read (Err fault) = read ≡ refused (number fault.why) fault.place

-- the numbers that stand from a place on, whatever they were held to, lie over the buffer
pub record Filled (bytes : List ℕ) (at count : ℕ) (old new : List ℕ) : Type 0 where
  pub filled : (test : ℕ → Verdict) (vs : List ℕ) (next : ℕ) → reading (many count test ended) bytes at ≡ got vs next → new ≡ lay vs old
