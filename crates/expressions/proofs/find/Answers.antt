-- The first letter whose name the run is, or none.
use mathlib.Core.Path.{◌≡◌, sym, ◌∙◌}
use Prim.Native.Nat.{◌-◌}
use native.Mathlib.Omega.{arith}
use Rattle.expressions.specs.Texts.{look_up}
use Rattle.expressions.proofs.Looking.{found, passed}
use Rattle.expressions.proofs.find.Goals as goal

pub returns-then-name_is : goal.returns-then-name_is
returns-then-name_is c =
    found c.args.run.now c.loop-letter.letter c.loop-letter-test.true c.loop-letter.invariant (sym c.name_is.ensures ∙ c.if-name_is.true)

pub loop-letter-preserved : goal.loop-letter-preserved
loop-letter-preserved c =
    passed c.args.run.now c.loop-letter.letter c.loop-letter-test.true c.loop-letter.invariant (sym c.name_is.ensures ∙ c.if-name_is.false)

pub returns : goal.returns
unfolding look_up
returns c =
    let none : 32 - c.loop-letter.letter ≡ 0 = omega arith in
    record { item = rw none at c.loop-letter.invariant; not_end = λ j. cc }
