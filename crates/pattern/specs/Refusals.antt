-- What the refusals of a pattern mean: the lines that every call has for its pattern. A call has its own lines between and after them.
--   MasksGood P             the finals and all rows are sets of the pattern's states
--   shape_lines P rest      10 BAD-SIZE and 11 BAD-TABLE, which every call looks at first (`shape_lines_lem`)
--   pattern_lines P rest    these and 12 BAD-SET for the pattern's own masks (`pattern_lines_lem`)
use Rattle.verdict.specs.Lines.{Lines}
use Rattle.verdict.specs.Lines.Lines.{line}
use Rattle.sets.specs.Sets.{Good}
use Rattle.pattern.specs.Pattern.{Pattern, Sized, Tabled, AllGood}

abbrev pub MasksGood : Pattern → Type 0
MasksGood P = Good P.states P.finals × AllGood P.states P.rows

abbrev pub shape_lines : Pattern → Lines → Lines
shape_lines P rest = line 10 (Sized P.states P.letters) (line 11 (Tabled P) rest)

abbrev pub pattern_lines : Pattern → Lines → Lines
pattern_lines P rest = shape_lines P (line 12 (MasksGood P) rest)
