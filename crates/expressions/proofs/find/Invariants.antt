-- No letter passed has the name.
use mathlib.Core.Path.{◌≡◌}
use Prim.Native.Nat.{◌-◌}
use Rattle.expressions.specs.Texts.{look_up}
use Rattle.expressions.proofs.find.Given as goal

abbrev pub invariant-loop-letter : goal.invariant-loop-letter
invariant-loop-letter l = look_up l.run 32 0 ≡ look_up l.run (32 - l.letter) l.letter
