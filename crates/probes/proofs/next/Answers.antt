-- `probes::next` answers what `next` does where nothing is against the question, and else refuses.
use Rattle.std.proofs.Common.{◌≡◌, refl, sym, rules, Err}
use borrow.Author.Tests.{ltb-true}
use Rattle.verdict.specs.Refusals.{said}
use Rattle.verdict.proofs.Ordered.{need_fine}
use Rattle.verdict.proofs.Refusals.{stops, goes_on, ends, said_held}
use Rattle.pattern.specs.Judge.{letter_test}
use Rattle.pattern.proofs.Validity.{shape_fine}
use Rattle.probes.specs.Probes.{next_test}
use Rattle.probes.proofs.Probing.{probe_done, probe_refused}
use Rattle.probes.proofs.next.Goals as goal

pub returns-in_err-shape_test : goal.returns-in_err-shape_test
unfolding next_test
returns-in_err-shape_test c =
    let e : c.from_residual.result ≡ Err c.in_err-shape_test.field-0.0 = search rules in
    rw e (probe_refused _ (sym (stops _ refl c.in_err-shape_test.ensures)))

pub returns-in_err-need : goal.returns-in_err-need
unfolding next_test letter_test
returns-in_err-need c =
    let e : c.from_residual-in_err-need.result ≡ Err c.in_err-need.field-0.0 = search rules in
    let told : said c.need.result ≡ letter_test c.args.pattern.now.letters c.args.letter = rw c.need.ensures (said_held _ _) in
    rw e (probe_refused _ (sym (goes_on _ c.in_ok-shape_test.ensures (stops _ refl (rw c.in_err-need.was at told)))))

pub invariant_of-shaped-clause-states_bound : goal.invariant_of-shaped-clause-states_bound
invariant_of-shaped-clause-states_bound c = ((shape_fine _).0 (sym c.in_ok-shape_test.ensures)).0.states_fit

pub invariant_of-shaped-clause-rows_len : goal.invariant_of-shaped-clause-rows_len
invariant_of-shaped-clause-rows_len c = ((shape_fine _).0 (sym c.in_ok-shape_test.ensures)).1

pub next-requires : goal.next-requires
unfolding letter_test
next-requires c =
    let told : said c.need.result ≡ letter_test c.args.pattern.now.letters c.args.letter = rw c.need.ensures (said_held _ _) in
    ltb-true _ _ (need_fine _ 15 (sym (rw c.in_ok-need.was at told)))

pub returns : goal.returns
unfolding next_test letter_test
returns c =
    let told : said c.need.result ≡ letter_test c.args.pattern.now.letters c.args.letter = rw c.need.ensures (said_held _ _) in
    probe_done (sym (goes_on _ c.in_ok-shape_test.ensures (ends (rw c.in_ok-need.was at told)))) c.next.ensures
