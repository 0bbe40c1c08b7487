-- What some texts look like. Assumes nothing.
use mathlib.Core.Path.{◌≡◌, refl}
use mathlib.Core.List.{List, [], ◌∷◌}
use Prim.Native.Nat.{ℕ, ◌≤◌}
use Rattle.asking.proofs.Examples.{no_input, pattern_a, asks_a}
use Rattle.walk.specs.Walk.Outcome.{Same, Different, Full}
use Rattle.walk.specs.Known.{pair, Row, Holds, Known}
use Rattle.walk.specs.Known.Known.{row}
use Rattle.walk.proofs.MoreRoom.{more_room}
use Rattle.walk.proofs.KnownAnswers.{known_answers}
use Rattle.text.specs.Text.{word, digits, decimal, spaced, joined, line, refusal_text}
use Rattle.events.specs.Events.{names, event_name}
use Rattle.report.specs.Report.{record_lines, text_of, Prints}
use Rattle.report.specs.Report.Prints.{refuses, answers}

-- an empty line for the empty sequence
empty_sequence : text_of (Different [] 1 []) ≡ word "DIFFERENT 0 1 0\n\n"
unfolding text_of line joined spaced decimal digits
empty_sequence = refl

single_spaces : text_of (Different (pair 1 2 0 0 ∷ []) 34 (10 ∷ 31 ∷ 0 ∷ [])) ≡ word "DIFFERENT 1 34 3\nCLOCKBACK E31 READ\n"
unfolding text_of line joined spaced decimal digits event_name names
single_spaces = refl

-- the records of pattern B
three_records : text_of (Same (pair 1 8 0 0 ∷ pair 2 48 0 0 ∷ pair 4 40 1 0 ∷ []) 4) ≡ word "SAME 3 4\n1 8\n2 48\n4 40\n"
unfolding text_of record_lines line joined spaced decimal digits
three_records = refl

full_alone : text_of (Full (pair 1 8 0 0 ∷ pair 2 48 0 0 ∷ []) 3) ≡ word "FULL 2 3\n"
unfolding text_of line joined spaced decimal digits
full_alone = refl

-- no byte at all: CUT at place 0
no_input_printed : (room : ℕ) → Prints room [] (word "REFUSED 20 0\n")
unfolding refusal_text line joined spaced decimal digits
no_input_printed room = refuses {number = 20} {place = 0} no_input

-- ---- the scope, §10: what the input `03 01 05 02 01 04 01 04` prints exactly, in any room but 0

first_known : {r : Row} {rows : List Row} → Known (r ∷ rows) → Holds r
first_known (row h known) = h

pub first_answer : (room : ℕ) → 1 ≤ room → Prints room pattern_a (word "DIFFERENT 1 2 1\nREAD\n")
unfolding text_of line joined spaced decimal digits event_name names
first_answer room some = answers {o = Different (pair 1 4 0 0 ∷ []) 2 (0 ∷ [])} asks_a (more_room room some tt (first_known known_answers))
