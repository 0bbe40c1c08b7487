-- A fault of the first text, no state for the second start, a fault of the second text, no room for the rows, or the pattern.
use mathlib.Core.Path.{◌≡◌, refl}
use Rattle.std.proofs.Common.{rules, Ok, Err}
use Rattle.std.proofs.lemmas.Nat.{one_shl}
use Rattle.std.proofs.lemmas.Result.{err_from_is_err_and}
use Rattle.verdict.specs.declared.Fault.{Fault}
use Rattle.expressions.specs.Answers.{of_text}
use Rattle.expressions.specs.Answers.Refusal.{first_text}
use Rattle.expressions.proofs.Refusals.{refuse_second, refuse_room, refuse_crowded}
use Rattle.expressions.proofs.Both.{blank, built}
use Rattle.expressions.proofs.Composed.{patterned}
use Rattle.expressions.proofs.expressions.Goals as goal

pub returns-in_err-x : goal.returns-in_err-x
returns-in_err-x c =
    let p = err_from_is_err_and c.from_residual.result c.from_residual.ensures.1 in
    let q : (f : Fault) × (c.read_text.result ≡ Err f) × (c.in_err-x.field-0.0 ≡ of_text 1 f) = search rules in
    rw (p.1, p.2, q.2) ((first_text (rw q.1 at c.read_text.ensures), refl), tt)

pub returns-then-x-ge-MOST_STATES : goal.returns-then-x-ge-MOST_STATES
returns-then-x-ge-MOST_STATES c =
    let q : c.read_text.result ≡ Ok c.in_ok-x.x = search rules in (
      refuse_crowded (rw q at c.read_text.ensures) c.args.two.now c.args.rows.now c.if-x-ge-MOST_STATES.true _ _
          c.read_text-then-x-ge-MOST_STATES.result c.crowded.result c.read_text-then-x-ge-MOST_STATES.ensures c.crowded.ensures,
      tt,
    )

pub returns-in_err-y : goal.returns-in_err-y
returns-in_err-y c =
    let q : c.read_text.result ≡ Ok c.in_ok-x.x = search rules in
    let p = err_from_is_err_and c.from_residual-in_err-y.result c.from_residual-in_err-y.ensures.1 in
    let r : (f : Fault) × (c.read_text-2.result ≡ Err f) × (c.in_err-y.field-0.0 ≡ of_text 2 f) = search rules in
    rw (p.1, p.2, r.2)
    ((refuse_second (rw q at c.read_text.ensures) c.if-x-ge-MOST_STATES.false (rw r.1 at c.read_text-2.ensures), refl), tt)

pub returns-then-rows-y : goal.returns-then-rows-y
returns-then-rows-y c =
    let q : c.read_text.result ≡ Ok c.in_ok-x.x = search rules in
    let r : c.read_text-2.result ≡ Ok c.in_ok-y.y = search rules in
    ((refuse_room (rw q at c.read_text.ensures) (rw r at c.read_text-2.ensures) c.if-rows-y.true, refl), tt)

pub returns : goal.returns
returns c =
    let q : c.read_text.result ≡ Ok c.in_ok-x.x = search rules in
    let r : c.read_text-2.result ≡ Ok c.in_ok-y.y = search rules in
    let b =
    built c.in_ok-x.x c.in_ok-y.y (one_shl c.in_ok-x.x.used 64 c.if-x-ge-MOST_STATES.false) blank (rw q at c.read_text.ensures)
    (rw r at c.read_text-2.ensures) c.link.ensures c.link-2.ensures c.args.rows.now c.fill.new.rows c.finals.result c.finals.ensures
    c.fill.ensures c.if-rows-y.false
    in
    (b, patterned b)
