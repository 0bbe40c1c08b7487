-- `1` and `0` as whole runs, else an event's name.
use mathlib.Core.Path.{◌≡◌, sym, ◌∙◌}
use mathlib.Core.Bool.{true, false}
use Rattle.std.specs.Prelude.{bytes_eq}
use Rattle.text.specs.Text.{word}
use Rattle.expressions.specs.Texts.{name_item}
use Rattle.expressions.proofs.name_token.Goals as goal

pub returns-then-eq : goal.returns-then-eq
unfolding name_item
returns-then-eq c =
    let one : bytes_eq c.args.run.now (word "1") ≡ true = rw (← c.as_slice.ensures) (sym c.eq.ensures ∙ c.if-eq.true) in
    record { not_end = λ j. cc; item = rw one }

pub returns-then-eq-2 : goal.returns-then-eq-2
unfolding name_item
returns-then-eq-2 c =
    let one : bytes_eq c.args.run.now (word "1") ≡ false = rw (← c.as_slice.ensures) (sym c.eq.ensures ∙ c.if-eq.false) in
    let nought : bytes_eq c.args.run.now (word "0") ≡ true = rw (← c.as_slice-2.ensures) (sym c.eq-2.ensures ∙ c.if-eq-2.true) in
    record { not_end = λ j. cc; item = rw (one, nought) }

pub returns : goal.returns
unfolding name_item
returns c =
    let one : bytes_eq c.args.run.now (word "1") ≡ false = rw (← c.as_slice.ensures) (sym c.eq.ensures ∙ c.if-eq.false) in
    let nought : bytes_eq c.args.run.now (word "0") ≡ false = rw (← c.as_slice-2.ensures) (sym c.eq-2.ensures ∙ c.if-eq-2.false) in
    let k = c.find.ensures in
    record { not_end = k.not_end; item = rw (one, nought) k.item }
