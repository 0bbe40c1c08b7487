-- `comparison::inclusion::within` compares X+Y with Y.
use Rattle.std.proofs.Common.{◌≡◌, rules, Err}
use Rattle.comparison.proofs.Joining.{compared_included}
use Rattle.comparison.proofs.inclusion.within.Goals as goal

pub returns-in_err-answer : goal.returns-in_err-answer
returns-in_err-answer c =
    let e : c.from_residual.result ≡ Err c.in_err-answer.field-0.0 = search rules in
    rw e (record {
      included = compared_included (rw c.joined.ensures at c.in_err-answer.ensures.compared);
      same_tables = c.in_err-answer.ensures.same_tables;
    })

pub returns : goal.returns
returns c = rw c.from.ensures (record {
  included = compared_included (rw c.joined.ensures at c.in_ok-answer.ensures.compared);
  same_tables = c.in_ok-answer.ensures.same_tables;
})
