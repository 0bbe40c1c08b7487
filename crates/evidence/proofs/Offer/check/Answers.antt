-- `evidence::Offer::check` makes the tests, asks for the starting pair, then tries the pairs.
use Rattle.std.proofs.Common.{◌≡◌, rules, Err}
use mathlib.Core.Path.{sym}
use Rattle.evidence.specs.Evidence.Checked.{refuses, not_started, started}
use Rattle.evidence.proofs.Validity.{offer_valid}
use Rattle.evidence.proofs.Offer.check.Goals as goal

pub returns-in_err-check_test : goal.returns-in_err-check_test
returns-in_err-check_test c =
    let e : c.from_residual.result ≡ Err c.in_err-check_test.field-0.0 = search rules in
    rw e (refuses (sym c.in_err-check_test.ensures))

pub invariant_of-pairs : goal.invariant_of-pairs
invariant_of-pairs c = record { paired = ((offer_valid _).0 (sym c.in_ok-check_test.ensures)).sides_match }

pub returns-then-not-congruent : goal.returns-then-not-congruent
returns-then-not-congruent c = not_started (sym c.in_ok-check_test.ensures) (c.congruent.ensures.complete c.if-not-congruent.true)

pub invariant_of-pattern-clause-states_bound : goal.invariant_of-pattern-clause-states_bound
invariant_of-pattern-clause-states_bound c = ((offer_valid _).0 (sym c.in_ok-check_test.ensures)).pattern.sized.states_fit

pub invariant_of-pattern-clause-rows_len : goal.invariant_of-pattern-clause-rows_len
invariant_of-pattern-clause-rows_len c = ((offer_valid _).0 (sym c.in_ok-check_test.ensures)).pattern.tabled

pub returns : goal.returns
returns c = started (sym c.in_ok-check_test.ensures) (c.congruent.ensures.sound c.if-not-congruent.false) c.by_pairs.ensures
