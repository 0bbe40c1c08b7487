-- `counts`: the counts of an outcome are as the scope has them (§6). Assumes nothing.
use Prim.Native.Nat.{ℕ, ◌≤◌}
use native.Mathlib.Omega.{arith}
use lib.ListN.{length}
use Rattle.pattern.specs.Pattern.{Sized}
use Rattle.walk.specs.Walk.{Question, Position, Outcome, Ends, Walk}
use Rattle.walk.specs.Walk.Ends.{same, different, full}
use Rattle.walk.specs.Meaning.{Counted}
use Rattle.walk.proofs.Sound.{Sound, walk_sound, fits_moved}
use Rattle.walk.proofs.Leading.{leads}

counts_end : {Q : Question} {room : ℕ} {p : Position} {o : Outcome} → Sized Q.pattern.states Q.pattern.letters
    → Sound Q p → length p.kept ≤ room → Ends Q room p o → Counted Q room o
counts_end sized s h (same n) = record { fits = h; bounded = s.counted; by_answer = omega (arith, s.counted) }
counts_end {Q} sized s h (different l f a w) = record { fits = h; bounded = l; by_answer = (leads Q sized.some_letter _ s.reached l w).short }
counts_end sized s h (full l f a g) = record { fits = h; bounded = l; by_answer = omega arith }

pub counts : {Q : Question} {room : ℕ} {o : Outcome} → Sized Q.pattern.states Q.pattern.letters → Walk Q room o → Counted Q room o
counts sized w = counts_end sized (walk_sound sized w) (fits_moved w.moved (omega arith)) w.ends
