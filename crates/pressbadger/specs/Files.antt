-- What the exports for pattern files answer, and what they leave in the buffers lent: the promises of `patternfile`, as the host reads them.
use Rattle.std.specs.Prelude.{◌≡◌, List, ℕ, Result}
use Rattle.verdict.specs.declared.Refusal.{Refusal}
use Rattle.verdict.specs.declared.Fault.{Fault}
use Rattle.pattern.specs.Pattern.{Pattern}
use Rattle.patternfile.specs.Reader as Reader
use Rattle.patternfile.specs.Reader.{Reads}
use Rattle.patternfile.specs.Writer as Writer
use Rattle.patternfile.specs.Writer.{Writes}
use Rattle.patternfile.specs.declared.PatternNumbers.{PatternNumbers}
use Rattle.pressbadger.specs.declared.files.PbPattern.{PbPattern}
use Rattle.pressbadger.specs.declared.files.PbWritten.{PbWritten}

-- the scope's number and values of what reading answers
abbrev pub pattern_answer : Result PatternNumbers Fault → PbPattern
pattern_answer r =
    record {
      answer = Reader.number_of r;
      states = (Reader.values_of r).states;
      letters = (Reader.values_of r).letters;
      finals = (Reader.values_of r).finals;
      x = (Reader.values_of r).x;
      y = (Reader.values_of r).y;
      place = (Reader.values_of r).place;
    }

pub record ReadPattern (bytes old : List ℕ) (r : PbPattern) (new : List ℕ) : Type 0 where
  pub read : Result PatternNumbers Fault
  pub leaves : Reads bytes old read new
  pub answers : r ≡ pattern_answer read

-- the scope's number and byte count of what writing answers
abbrev pub written_answer : Result ℕ Refusal → PbWritten
written_answer r = record { answer = Writer.number_of r; count = Writer.count_of r }

pub record WrittenPattern (P : Pattern) (x y : ℕ) (old : List ℕ) (r : PbWritten) (new : List ℕ) : Type 0 where
  pub written : Result ℕ Refusal
  pub leaves : Writes P x y old written new
  pub answers : r ≡ written_answer written
