-- `evidencefile::fill_pairs` stores so many pairs: `Filling` follows the loop.
use mathlib.Core.Path.{refl}
use native.Mathlib.Omega.{arith}
use Rattle.numbers.specs.Numbers.{AreBytes}
use Rattle.numbers.proofs.Taking.{done_on, refused_on, took_within}
use Rattle.evidencefile.proofs.Filling.{filling_first, filling_no_left, filling_no_right, filling_step, filling_done}
use Rattle.evidencefile.proofs.fill_pairs.Goals as goal

pub loop-i-init : goal.loop-i-init
loop-i-init c = filling_first _ _ _ _ _ c.requires.lefts_fit c.requires.rights_fit

pub returns-in_default : goal.returns-in_default
returns-in_default c = filling_no_left c.loop-i.invariant c.loop-i-test.true (refused_on c.args.bytes.now c.loop-i.place c.in_default.ensures refl)

pub overflow_add-at_right : goal.overflow_add-at_right
overflow_add-at_right c =
    let are : AreBytes c.args.bytes.now = record { each = λ i. omega (arith, c.type_inv.bytes i) } in
    omega (arith, took_within c.args.bytes.now c.loop-i.place are c.in-Ok.ensures)

pub returns-in_default-read : goal.returns-in_default-read
returns-in_default-read c =
    filling_no_right c.loop-i.invariant c.loop-i-test.true (done_on c.args.bytes.now c.loop-i.place c.in-Ok.ensures refl)
    (refused_on c.args.bytes.now _ c.in_default-read.ensures refl)

pub overflow_add-place : goal.overflow_add-place
overflow_add-place c =
    let are : AreBytes c.args.bytes.now = record { each = λ i. omega (arith, c.type_inv.bytes i) } in
    omega (arith, took_within c.args.bytes.now _ are c.in-Ok-read.ensures)

pub loop-i-preserved : goal.loop-i-preserved
loop-i-preserved c =
    filling_step c.loop-i.invariant c.loop-i-test.true (done_on c.args.bytes.now c.loop-i.place c.in-Ok.ensures refl)
    (done_on c.args.bytes.now _ c.in-Ok-read.ensures refl) (omega arith) (omega arith)

pub returns : goal.returns
returns c = filling_done c.loop-i.invariant (omega arith)
