-- `patternfile::read`: the first pass gives the answer unless bytes follow, and by the law of files the rows stand where the second pass takes them.
use Rattle.std.proofs.Common.{rules, ◌≡◌, ◌+◌, ℕ, Err, ap, sym, arith}
use lib.Seq.{length-take-le}
use Rattle.numbers.specs.Numbers.{AreBytes}
use Rattle.numbers.proofs.TenBytes.{encode_ten}
use Rattle.patternfile.proofs.Filling.{reads_stopped, reads_tail, reads_room, reads_done, filled_part}
use Rattle.patternfile.proofs.read.Goals as goal

pub returns-in_err-part : goal.returns-in_err-part
returns-in_err-part c =
    let e : c.from_residual.result ≡ Err c.in_err-part.field-0.0 = search rules in
    rw e (reads_stopped c.args.bytes.now c.args.rows.now c.in_err-part.ensures)

-- TAIL
pub returns-in_err-no_tail : goal.returns-in_err-no_tail
returns-in_err-no_tail c =
    let e : c.from_residual-in_err-no_tail.result ≡ Err c.in_err-no_tail.field-0.0 = search rules in
    rw (e, c.in_err-no_tail.ensures.1) (reads_tail c.args.bytes.now c.args.rows.now c.in_ok-part.part c.in_ok-part.ensures c.in_err-no_tail.ensures.0)

pub overflow_add-at : goal.overflow_add-at
overflow_add-at c = omega (arith, encode_ten c.in_ok-part.part.numbers.finals)

pub overflow_mul-found : goal.overflow_mul-found
overflow_mul-found c =
    let are : AreBytes c.args.bytes.now = record { each = λ i. omega (arith, c.type_inv.bytes i) } in
    omega (arith, reads_room c.args.bytes.now c.args.rows.now c.in_ok-part.part c.in_ok-part.ensures are)

pub slice_bounds-fill-end : goal.slice_bounds-fill-end
slice_bounds-fill-end c =
    let are : AreBytes c.args.bytes.now = record { each = λ i. omega (arith, c.type_inv.bytes i) } in
    omega (arith, reads_room c.args.bytes.now c.args.rows.now c.in_ok-part.part c.in_ok-part.ensures are)

pub slice_bounds-fill-end-2 : goal.slice_bounds-fill-end-2
slice_bounds-fill-end-2 c =
    let are : AreBytes c.args.bytes.now = record { each = λ i. omega (arith, c.type_inv.bytes i) } in
    sym (length-take-le _ c.args.rows.now (omega (arith, reads_room c.args.bytes.now c.args.rows.now c.in_ok-part.part c.in_ok-part.ensures are)))

pub returns : goal.returns
returns c =
    let are : AreBytes c.args.bytes.now = record { each = λ i. omega (arith, c.type_inv.bytes i) } in
    let room = reads_room c.args.bytes.now c.args.rows.now c.in_ok-part.part c.in_ok-part.ensures are in
    reads_done c.args.bytes.now c.args.rows.now c.in_ok-part.part c.in_ok-part.ensures are (ap (λ (m : ℕ). 2 + m) c.size-at.ensures) c.in_ok-no_tail.ensures
    (filled_part room (omega arith) c.fill.ensures)
