-- `congruence::Pairs::congruent` decides congruence: each set grows toward the other.
use Rattle.std.proofs.Common.{true≢false, sym}
use Rattle.congruence.proofs.Deciding.{growing_decides, reaches}
use Rattle.congruence.proofs.Pairs.congruent.Goals as goal

pub returns-then-not-within : goal.returns-then-not-within
returns-then-not-within c = record {
  sound = λ e. absurd (true≢false (sym e));
  complete = λ e h. c.within.ensures.complete c.if-not-within.true (reaches c.grow.ensures h);
}

pub returns : goal.returns
returns c =
    let both = growing_decides c.grow.ensures c.grow-2.ensures in
    record {
      sound = λ e. both.1 (c.within.ensures.sound c.if-not-within.false, c.within-2.ensures.sound e);
      complete = λ e h. c.within-2.ensures.complete e (both.0 h).1;
    }
