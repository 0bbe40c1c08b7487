-- The one-way question of a question: whether every event sequence that is accepted from X is accepted from Y.
--   joined    X+Y and Y in the place of X and Y: the question whose walk decides it (`within_means_within`, `not_within_escapes`)
use Rattle.std.specs.Int.Bits.{bit_or}
use Rattle.walk.specs.Walk.{Question}

abbrev pub joined : Question → Question
joined Q = record { pattern = Q.pattern; left = bit_or Q.left Q.right; right = Q.right }
