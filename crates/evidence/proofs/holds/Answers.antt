-- `evidence::holds` compares the two sides on the empty sequence, then their successors by each letter.
use mathlib.Core.Path.{refl, sym, ◌∙◌}
use Rattle.std.proofs.Common.{rules, arith}
use Rattle.verdict.proofs.Flags.{flags_differ, flags_agree}
use Rattle.pattern.specs.Language.{accepts, reach}
use Rattle.evidence.proofs.holds.Goals as goal

pub returns-then-meets : goal.returns-then-meets
unfolding accepts reach
returns-then-meets c = (λ e. search rules, λ h. absurd (flags_differ _ _ c.if-meets.true (c.meets.ensures ∙ h.agrees ∙ sym c.meets-2.ensures)))

pub returns : goal.returns
unfolding accepts reach
returns c = (
  λ e. record {
    agrees = sym c.meets.ensures ∙ flags_agree _ _ c.if-meets.false ∙ c.meets-2.ensures;
    steps = λ letter l. c.loop-letter.invariant letter (omega (arith, c.loop-letter-test.false));
  },
  λ h. refl,
)
