-- `evidencefile::judge_pairs` goes through the format behind the pattern's numbers.
use Rattle.std.proofs.Common.{rules, ◌≡◌, ℕ, Err, sym, ◌∙◌, arith}
use Rattle.verdict.specs.Verdict.Verdict.{Fine}
use Rattle.numbers.proofs.Faulted.{faulted}
use Rattle.evidencefile.specs.EvidenceFile.{pair_room_test}
use Rattle.evidencefile.proofs.Judging.{no_count, few_pairs, no_room, bad_pair, all_pairs}
use Rattle.evidencefile.proofs.judge_pairs.Goals as goal
use Rattle.evidencefile.proofs.judge_pairs.Goals.{In_ok-map_err}

pub returns-in_err-count : goal.returns-in_err-count
returns-in_err-count c =
    let e : c.from_residual.result ≡ Err c.in_err-count.field-0.0 = search rules in
    rw e (no_count c.args.states c.args.lefts c.args.rights c.args.bytes.now c.args.at c.in_err-count.ensures)

-- NO-ROOM
pub returns-in_err-map_err : goal.returns-in_err-map_err
returns-in_err-map_err c =
    let e : c.from_residual-in_err-map_err.result ≡ Err c.in_err-map_err.field-0.0 = search rules in
    let bad = (faulted c.in_ok-count.count.next c.pair_room_test.result c.map_err.ensures.cases (λ why f h. let made : (place : ℕ) × (f ≡ record { why = why; place = place }) = search rules in made.1)).err c.in_err-map_err.field-0.0 c.in_err-map_err.was in
    rw (e, bad.1) (no_room c.args.states c.args.lefts c.args.rights c.args.bytes.now c.args.at c.in_ok-count.ensures (sym c.pair_room_test.ensures ∙ bad.0))

pub overflow_mul-pairs : goal.overflow_mul-pairs
overflow_mul-pairs c = omega (arith, few_pairs c.args.states c.args.lefts c.args.rights c.args.bytes.now c.args.at c.in_ok-count.ensures)

roomy : (c : In_ok-map_err) → pair_room_test c.args.lefts c.args.rights c.in_ok-count.count.value ≡ Fine
roomy c = sym c.pair_room_test.ensures ∙ (faulted c.in_ok-count.count.next c.pair_room_test.result c.map_err.ensures.cases (λ why f h. let made : (place : ℕ) × (f ≡ record { why = why; place = place }) = search rules in made.1)).ok c.in_ok-map_err.was

pub returns-in_err-end : goal.returns-in_err-end
returns-in_err-end c =
    let e : c.from_residual-in_err-end.result ≡ Err c.in_err-end.field-0.0 = search rules in
    rw e
    (bad_pair c.args.states c.args.lefts c.args.rights c.args.bytes.now c.args.at c.in_ok-count.ensures (roomy (goal.at.returns-in_err-end c).In_ok-map_err) c.in_err-end.ensures)

pub returns : goal.returns
returns c = (
  c.in_ok-end.ensures.0,
  all_pairs c.args.states c.args.lefts c.args.rights c.args.bytes.now c.args.at c.in_ok-count.ensures (roomy (goal.at.returns c).In_ok-map_err) c.in_ok-end.ensures.1,
)
