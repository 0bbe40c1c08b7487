-- An alternation that takes the whole text is the text's; else the first fault is the alternation's, or stands where it ends.
use mathlib.Core.Path.{◌≡◌}
use Rattle.std.proofs.Common.{rules}
use Rattle.std.proofs.lemmas.Result.{err_from_is_err_and}
use Rattle.expressions.specs.declared.Token.TheVariants.{End}
use Rattle.expressions.proofs.Faults.{first_fault}
use Rattle.expressions.proofs.Readers.{unended, whole}
use Rattle.expressions.proofs.read_text.Goals as goal

pub returns-in_err-x : goal.returns-in_err-x
returns-in_err-x c =
    let p = err_from_is_err_and c.from_residual.result c.from_residual.ensures.1 in
    rw (p.1, p.2) (first_fault c.args.text.now c.args.used _ _ c.in_err-x.ensures)

pub returns-then-ne : goal.returns-then-ne
returns-then-ne c =
    let more : c.in_ok-x.x.next.token ≡ End → ⊥ = search rules in
    unended c.in_ok-x.ensures more

pub returns : goal.returns
returns c =
    let end : c.in_ok-x.x.next.token ≡ End = search rules in
    whole c.in_ok-x.ensures end
