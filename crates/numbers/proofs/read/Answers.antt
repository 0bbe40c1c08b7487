-- `numbers::read` finds what stands at the place: `Reached` follows the loop.
use Rattle.std.proofs.Common.{rules, ◌≡◌, ◌<◌, ◌-◌, arith, sym, ◌∙◌}
use Rattle.std.specs.Prelude.{Err}
use Rattle.verdict.specs.Verdict.Verdict.{Fine}
use Rattle.numbers.specs.Numbers.{byte_test}
use Rattle.numbers.proofs.Faulted.{faulted}
use Rattle.numbers.proofs.ReaderLoop.{going_cut, going_bad, going_last, going_more, last_fits, weight_fits, more_fits, answer_is, reached_below, reached_byte, reached_end, reached_next}
use Rattle.numbers.proofs.read.Goals as goal

pub loop-place-init : goal.loop-place-init
loop-place-init c = search rules

pub returns-in_err-map_err : goal.returns-in_err-map_err
returns-in_err-map_err c =
    let e : c.from_residual.result ≡ Err c.in_err-map_err.field-0.0 = search rules in
    let r = c.loop-place.invariant in
    let bad = (faulted c.args.at c.byte_test.result c.map_err.ensures.cases (λ why f h. search rules)).err c.in_err-map_err.field-0.0 c.in_err-map_err.was in
    rw (e, bad.1) (answer_is c.args.bytes.now c.args.at
    (going_bad r.going (reached_below r c.loop-place-test.true) (reached_byte r c.from-b.ensures) (sym c.byte_test.ensures ∙ bad.0)))

-- the byte is fine, where it is the last one and where it is not
fine_last : (c : goal.Then-b-lt128) → byte_test (c.loop-place.place - c.args.at) c.from-b.result ≡ Fine
fine_last c = sym c.byte_test.ensures ∙ (faulted c.args.at c.byte_test.result c.map_err.ensures.cases (λ why f h. search rules)).ok c.in_ok-map_err.was

fine_more : (c : goal.Else-b-lt128) → byte_test (c.loop-place.place - c.args.at) c.from-b.result ≡ Fine
fine_more c = sym c.byte_test.ensures ∙ (faulted c.args.at c.byte_test.result c.map_err.ensures.cases (λ why f h. search rules)).ok c.in_ok-map_err.was

a_byte : (c : goal.Else-b-lt128) → c.from-b.result < 256
a_byte c = omega (arith, c.type_inv.bytes c.loop-place.place)

pub overflow_mul-result : goal.overflow_mul-result
overflow_mul-result c = omega (arith, last_fits c.loop-place.invariant.going (fine_last c) c.if-b-lt128.true)

pub overflow_add-result : goal.overflow_add-result
overflow_add-result c = omega (arith, last_fits c.loop-place.invariant.going (fine_last c) c.if-b-lt128.true)

pub returns-then-b-lt128 : goal.returns-then-b-lt128
returns-then-b-lt128 c =
    let r = c.loop-place.invariant in
    answer_is c.args.bytes.now c.args.at
    (going_last r.going (reached_below r c.loop-place-test.true) (reached_byte r c.from-b.ensures) (fine_last c) c.if-b-lt128.true)

pub overflow_mul-value : goal.overflow_mul-value
overflow_mul-value c = omega (arith, more_fits c.loop-place.invariant.going (fine_more c) c.if-b-lt128.false (a_byte c))

pub overflow_add-value : goal.overflow_add-value
overflow_add-value c = omega (arith, more_fits c.loop-place.invariant.going (fine_more c) c.if-b-lt128.false (a_byte c))

pub overflow_mul-weight : goal.overflow_mul-weight
overflow_mul-weight c = omega (arith, weight_fits c.loop-place.invariant.going (fine_more c) c.if-b-lt128.false)

pub loop-place-preserved : goal.loop-place-preserved
loop-place-preserved c =
    let r = c.loop-place.invariant in
    reached_next r (going_more r.going (reached_below r c.loop-place-test.true) (reached_byte r c.from-b.ensures) (fine_more c) c.if-b-lt128.false (a_byte c))

pub returns : goal.returns
returns c =
    let r = c.loop-place.invariant in
    answer_is c.args.bytes.now c.args.at (going_cut r.going (reached_end r c.loop-place-test.false))
