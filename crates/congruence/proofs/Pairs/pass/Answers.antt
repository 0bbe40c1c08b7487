-- `congruence::Pairs::pass` goes over the pairs once, or until the goal lies within.
use mathlib.Core.Logic.{inl, inr}
use Rattle.std.proofs.Common.{rules}
use Rattle.congruence.specs.Closing.Grows.{nothing}
use Rattle.congruence.proofs.Passes.{walked_first, walked_next, walked_past, walked_grown, walked_closed}
use Rattle.congruence.proofs.Pairs.pass.Goals as goal

pub returns-then-within : goal.returns-then-within
returns-then-within c = record { grown = nothing; still = λ e. inl (c.within.ensures.sound c.if-within.true) }

pub loop-a-init : goal.loop-a-init
loop-a-init c = search (rules, walked_first)

pub returns-then-within-4 : goal.returns-then-within-4
returns-then-within-4 c = record {
  grown = rw (c.added-mask-then-within-2.ensures, c.added-mask.ensures) (walked_grown (walked_next c.loop-a.invariant c.in-Some.ensures.steps.0 c.in-Some.ensures.steps.1));
  still = λ e. inl (c.within-then-within-2.ensures.sound c.if-within-4.true);
}

pub loop-a-preserved-in-loop-a : goal.loop-a-preserved-in-loop-a
loop-a-preserved-in-loop-a c = rw (c.added-mask-then-within-2.ensures, c.added-mask.ensures) (walked_next c.loop-a.invariant c.in-Some.ensures.steps.0 c.in-Some.ensures.steps.1)

pub loop-a-preserved : goal.loop-a-preserved
loop-a-preserved c =
    walked_past c.loop-a.invariant c.in-Some.ensures.steps.0 c.in-Some.ensures.steps.1
    c.within-in-loop-a.ensures c.if-within-2.false c.within-else-within-2.ensures c.if-within-3.false

pub returns : goal.returns
returns c = record {
  grown = walked_grown c.loop-a.invariant;
  still = λ e. inr (walked_closed c.loop-a.invariant c.args.self.now.paired (elim c.in-None.ensures.steps [ inl x ↦ inl x.1.0 | inr x ↦ inr x.1.0 ]) e);
}
