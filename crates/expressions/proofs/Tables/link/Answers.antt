-- State by state, each joined or left as it was.
use mathlib.Core.Path.{refl, ◌∙◌}
use native.Mathlib.Omega.{arith}
use Rattle.std.proofs.lemmas.List.{set-get_or}
use Rattle.expressions.proofs.Links.{linking_none, linked_in, linked_out}
use Rattle.expressions.proofs.Tables.link.Goals as goal
use Rattle.expressions.proofs.Tables.link.Goals.{then-lasts-s-eq1, else-lasts-s-eq1}

pub loop-s-init : goal.loop-s-init
loop-s-init c = linking_none c.args.lasts c.args.firsts c.args.self.now.follow

pub loop-s-preserved : goal.loop-s-preserved
loop-s-preserved c =
    elim c.if-lasts-s-eq1.branch [
      | then-lasts-s-eq1 w ↦
          linked_in c.args.lasts c.args.firsts c.loop-s.s c.args.self.now.follow c.loop-s.next-items c.if-lasts-s-eq1.next-items c.loop-s.invariant
          (omega arith) w.if-lasts-s-eq1.true w.next-items-is
      | else-lasts-s-eq1 w ↦
          linked_out c.args.lasts c.args.firsts c.loop-s.s c.args.self.now.follow c.loop-s.next-items c.if-lasts-s-eq1.next-items c.loop-s.invariant
          w.if-lasts-s-eq1.false (w.next-items-is ∙ set-get_or c.loop-s.next-items c.loop-s.s 0)
    ]

pub returns : goal.returns
returns c = record { entry = λ s l. c.loop-s.invariant.entry s (omega arith); names = refl }
