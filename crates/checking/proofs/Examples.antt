-- What some texts look like. Assumes nothing.
use mathlib.Core.Path.{◌≡◌, refl}
use mathlib.Core.List.{[]}
use Rattle.numbers.specs.Numbers.{groups, number_at}
use Rattle.numbers.specs.Format.{reading, file_reading}
use Rattle.patternfile.specs.PatternFile.{pattern_then}
use Rattle.evidencefile.specs.EvidenceFile.{evidence_format}
use Rattle.text.specs.Text.{word, digits, decimal, spaced, joined, line, refusal_text}
use Rattle.checking.specs.Checking.{proved_text, not_proved_text, Prints}
use Rattle.checking.specs.Checking.Prints.{refuses}

proved_line : proved_text ≡ word "PROVED\n"
unfolding proved_text line joined spaced
proved_line = refl

not_proved_line : not_proved_text 1024 ≡ word "NOT-PROVED 1024\n"
unfolding not_proved_text line joined spaced decimal digits
not_proved_line = refl

-- no byte at all: CUT at place 0
pub no_input_printed : Prints [] (word "REFUSED 20 0\n")
unfolding refusal_text line joined spaced decimal digits file_reading evidence_format pattern_then reading number_at groups
no_input_printed = refuses {number = 20} {place = 0} refl
