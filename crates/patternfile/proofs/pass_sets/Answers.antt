-- `patternfile::pass_sets` judges so many sets: `Passing` follows the loop.
use Rattle.std.proofs.Common.{rules, ◌≡◌, Err}
use Rattle.patternfile.proofs.Passing.{passing_first, passing_stopped, passing_step, passing_done}
use Rattle.patternfile.proofs.pass_sets.Goals as goal

pub loop-init : goal.loop-init
loop-init c = passing_first

pub returns-in_err-place : goal.returns-in_err-place
returns-in_err-place c =
    let e : c.from_residual.result ≡ Err c.in_err-place.field-0.0 = search rules in
    rw e (passing_stopped c.loop.invariant c.loop-test.true c.in_err-place.ensures)

pub loop-preserved : goal.loop-preserved
loop-preserved c = passing_step c.loop.invariant c.loop-test.true c.in_ok-place.ensures

pub returns : goal.returns
returns c = passing_done c.loop.invariant c.loop-test.false
