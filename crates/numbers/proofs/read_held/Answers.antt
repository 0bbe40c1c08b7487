-- `numbers::read_held` reads a number and hands on what is against its form, or what its test says.
use Rattle.std.proofs.Common.{rules, ◌≡◌, Err, arith}
use Rattle.numbers.specs.Numbers.{AreBytes}
use Rattle.numbers.proofs.Faulted.{faulted}
use Rattle.numbers.proofs.Taking.{took_within, held_fault, held_against, held_value}
use Rattle.numbers.proofs.read_held.Goals as goal

pub returns-in_err-value : goal.returns-in_err-value
returns-in_err-value g c =
    let e : c.from_residual.result ≡ Err c.in_err-value.field-0.0 = search rules in
    rw e (held_fault _ _ _ c.in_err-value.ensures)

pub returns-in_err-map_err : goal.returns-in_err-map_err
returns-in_err-map_err g c =
    let e : c.from_residual-in_err-map_err.result ≡ Err c.in_err-map_err.field-0.0 = search rules in
    let are : AreBytes c.args.bytes.now = record { each = λ i. omega (arith, c.type_inv.bytes i) } in
    rw e
    (held_against _ _ _ are c.in_ok-value.ensures c.test.result c.test.ensures
    ((faulted c.args.at c.test.result c.map_err.ensures.cases (λ why f h. search rules)).err c.in_err-map_err.field-0.0 c.in_err-map_err.was))

pub overflow_add-result : goal.overflow_add-result
overflow_add-result g c =
    let are : AreBytes c.args.bytes.now = record { each = λ i. omega (arith, c.type_inv.bytes i) } in
    omega (arith, took_within c.args.bytes.now c.args.at are c.in_ok-value.ensures)

pub returns : goal.returns
returns g c =
    let are : AreBytes c.args.bytes.now = record { each = λ i. omega (arith, c.type_inv.bytes i) } in
    held_value _ _ _ are c.in_ok-value.ensures c.test.result c.test.ensures
    ((faulted c.args.at c.test.result c.map_err.ensures.cases (λ why f h. search rules)).ok c.in_ok-map_err.was)
