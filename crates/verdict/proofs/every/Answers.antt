-- `verdict::every` tests each value in turn.
use Rattle.std.proofs.Common.{List, Result, ◌≡◌, rules, Err, arith}
use mathlib.Core.Path.{subst}
use Rattle.verdict.specs.declared.Refusal.{Refusal}
use Rattle.verdict.specs.Refusals.{TestsEach}
use Rattle.verdict.proofs.Rest.{rest_first, rest_next, rest_stop, rest_none, rest_here, rest_end}
use Rattle.verdict.proofs.every.Goals as goal

-- the values gone through are those that were given
each_of : {A : Type 0} {Tells : A → Result (Unit {0}) Refusal → Type 0} {xs ys : List A} {r : Result (Unit {0}) Refusal} → TestsEach Tells xs r → xs ≡ ys → TestsEach Tells ys r
each_of {A} {Tells} {r = r} t e = subst (λ (l : List A). TestsEach Tells l r) e t

pub loop-value-init : goal.loop-value-init
loop-value-init g c = rest_first

pub returns-in_err-test : goal.returns-in_err-test
returns-in_err-test g c =
    let e : c.from_residual.result ≡ Err c.in_err-test.field-0.0 = search rules in
    rw e (each_of (rest_stop (rest_here c.value-item.is c.loop-value-test.true c.loop-value.invariant) c.in_err-test.ensures) (cc))

pub loop-value-preserved : goal.loop-value-preserved
loop-value-preserved g c = rest_next (rest_here c.value-item.is c.loop-value-test.true c.loop-value.invariant) c.in_ok-test.ensures

pub returns : goal.returns
returns g c = each_of (rest_none (rest_end (omega arith) c.loop-value.invariant)) (cc)
