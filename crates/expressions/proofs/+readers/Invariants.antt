-- The readers end: each call has less text before it, or the same text and a lower rank. The loops keep what was read so far.
use Rattle.std.proofs.Common.{◌+◌, ◌*◌, ◌-◌, length}
use Rattle.expressions.specs.Grammar.Level.{alternation, sequence, factor}
use Rattle.expressions.proofs.Readers.{Begun}
use Rattle.expressions.proofs.+readers.Given as goal

abbrev pub decreases-alternation : goal.decreases-alternation
decreases-alternation l = (length l.text.now - l.at) * 3 + 2

abbrev pub decreases-factor : goal.decreases-factor
decreases-factor l = (length l.text.now - l.next.place) * 3

abbrev pub decreases-sequence : goal.decreases-sequence
decreases-sequence l = (length l.text.now - l.at) * 3 + 1

abbrev pub invariant-alternation-loop-tables : goal.invariant-alternation-loop-tables
invariant-alternation-loop-tables l = Begun alternation sequence l.text l.at l.depth l.used l.fn.tables l.tables l.x

abbrev pub decreases-alternation-loop-tables : goal.decreases-alternation-loop-tables
decreases-alternation-loop-tables l = length l.text - l.x.next.place

abbrev pub invariant-sequence-loop-tables : goal.invariant-sequence-loop-tables
invariant-sequence-loop-tables l = Begun sequence factor l.text l.at l.depth l.used l.fn.tables l.tables l.x

abbrev pub decreases-sequence-loop-tables : goal.decreases-sequence-loop-tables
decreases-sequence-loop-tables l = length l.text - l.x.next.place
