-- `pattern::Shaped::reached` follows the sequence letter by letter.
use mathlib.Core.Path.{◌≡◌, ap, ◌∙◌, subst}
use mathlib.Core.List.{List}
use Prim.Native.Nat.{ℕ}
use Rattle.pattern.specs.Pattern.{Pattern}
use Rattle.pattern.specs.Language.{reach, Over}
use Rattle.pattern.proofs.Words.{over_at}
use Rattle.pattern.proofs.Following.{following_more, following_done}
use Rattle.pattern.proofs.Shaped.reached.Goals as goal

-- the letters gone through are those of the sequence
over_same : {k : ℕ} {v w : List ℕ} → Over k v → v ≡ w → Over k w
over_same {k} o e = subst (Over k) e o

reach_same : (P : Pattern) (set : ℕ) {v w : List ℕ} {at : ℕ} → at ≡ reach P set v → v ≡ w → at ≡ reach P set w
reach_same P set h e = h ∙ ap (reach P set) e

pub next-at-requires : goal.next-at-requires
next-at-requires c = rw c.from.ensures (over_at (over_same c.requires (cc)) c.loop-letter.letter-index c.loop-letter-test.true)

pub loop-letter-preserved : goal.loop-letter-preserved
loop-letter-preserved c = following_more c.loop-letter-test.true c.loop-letter.invariant (rw (← c.from.ensures) c.next-at.ensures)

pub returns : goal.returns
returns c = reach_same _ _ (following_done c.loop-letter-test.false c.loop-letter.invariant) (cc)
