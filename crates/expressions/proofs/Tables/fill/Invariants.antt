-- The entries below i are filled.
use Rattle.std.proofs.Common.{ℕ, ◌≡◌, ◌<◌, ◌/◌, ◌%◌, get_or, bit_and}
use Rattle.expressions.proofs.Tables.fill.Given as goal

abbrev pub invariant-loop-i : goal.invariant-loop-i
invariant-loop-i l = (k : ℕ) → k < l.i → get_or l.row-items k 0 ≡ bit_and (get_or l.self.follow (k / 32) 0) (get_or l.self.named (k % 32) 0)
