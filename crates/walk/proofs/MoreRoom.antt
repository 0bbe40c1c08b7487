-- `more_room`: SAME and DIFFERENT in one room are the same outcome in every larger room. Assumes nothing.
use Prim.Native.Nat.{ℕ, ◌≤◌}
use native.Mathlib.Omega.{arith}
use Rattle.walk.specs.Walk.{Question, Position, Moves, Outcome, Ends, Moved, Walk}
use Rattle.walk.specs.Walk.Moves.{skipped}
use Rattle.walk.specs.Walk.Ends.{same, different, full}
use Rattle.walk.specs.Walk.Moved.{stay, go}
use Rattle.walk.specs.Meaning.{Settled}

module _ {Q : Question} {room : ℕ} (more : ℕ) (le : room ≤ more) where
  roomier_move : {p q : Position} → Moves Q room p q → Moves Q more p q
  roomier_move (skipped l c) = skipped l c
  roomier_move (Moves.kept l f a h) = Moves.kept l f a (omega arith)

  roomier_moved : {p q : Position} → Moved Q room p q → Moved Q more p q
  roomier_moved stay = stay
  roomier_moved (go m n) = go (roomier_move m) (roomier_moved n)

  roomier_end : {p : Position} {o : Outcome} → Settled o → Ends Q room p o → Ends Q more p o
  roomier_end s (same n) = same n
  roomier_end s (different l f a w) = different l f a w
  roomier_end s (full l f a h) = absurd s

  pub more_room : {o : Outcome} → Settled o → Walk Q room o → Walk Q more o
  more_room s w = record { last = w.last; moved = roomier_moved w.moved; ends = roomier_end s w.ends }
