-- `records::compares::within` compares X+Y with Y.
use Rattle.std.proofs.Common.{◌≡◌, rules, Ok, Err}
use Rattle.records.proofs.OneWay.{answered_within}
use Rattle.records.proofs.compares.within.Goals as goal

pub returns-in_err-answer : goal.returns-in_err-answer
returns-in_err-answer c =
    let e : c.from_residual.result ≡ Err c.in_err-answer.field-0.0 = search rules in
    rw e (answered_within (Err c.in_err-answer.field-0.0) (rw c.joined-either.ensures at c.in_err-answer.ensures))

pub returns : goal.returns
returns c = rw c.from.ensures (answered_within (Ok c.in_ok-answer.answer) (rw c.joined-either.ensures at c.in_ok-answer.ensures))
