-- `patternfile::fill` stores numbers: `Filling` follows the loop.
use Rattle.std.proofs.Common.{arith}
use mathlib.Core.Path.{refl}
use Rattle.std.proofs.lemmas.List.{set-get_or}
use Rattle.numbers.specs.Numbers.{AreBytes}
use Rattle.numbers.proofs.Taking.{done_on, refused_on, took_within}
use Rattle.patternfile.proofs.Filling.{filling_first, filling_stopped, filling_step, filling_done}
use Rattle.patternfile.proofs.fill.Goals as goal

pub loop-row-init : goal.loop-row-init
loop-row-init c = filling_first _ _ _ _ (omega arith)

pub returns-in_default : goal.returns-in_default
returns-in_default c =
    rw set-get_or (filling_stopped c.loop-row.invariant (omega arith) (refused_on c.args.bytes.now c.loop-row.place c.in_default.ensures refl))

pub overflow_add-place : goal.overflow_add-place
overflow_add-place c =
    let are : AreBytes c.args.bytes.now = record { each = λ i. omega (arith, c.type_inv.bytes i) } in
    omega (arith, took_within c.args.bytes.now c.loop-row.place are c.in-Ok.ensures)

pub loop-row-preserved : goal.loop-row-preserved
loop-row-preserved c = filling_step c.loop-row.invariant (omega arith) (omega arith) (done_on c.args.bytes.now c.loop-row.place c.in-Ok.ensures refl)

pub returns : goal.returns
returns c = filling_done c.loop-row.invariant (omega arith)
