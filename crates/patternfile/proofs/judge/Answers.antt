-- `patternfile::judge` goes through the format: at each place `Reached` says what has been read and what is still to be read.
use Rattle.std.proofs.Common.{rules, ◌≡◌, Err, arith}
use Rattle.std.proofs.lemmas.Grind.{common_steps}
use mathlib.Core.List.{[], ◌∷◌}
use Rattle.pattern.specs.Pattern.{Sized}
use Rattle.numbers.specs.Format.{ended}
use Rattle.numbers.proofs.Faulted.{need_held, need_failed}
use Rattle.numbers.proofs.Steps.{Reached, reached_item, stopped_item}
use Rattle.patternfile.specs.PatternFile.{sets_then, pattern_format}
use Rattle.patternfile.proofs.Judging.{to_states, sizes_fine, stop_room, to_finals, stop_rows, to_x, all_read}
use Rattle.patternfile.proofs.judge.Goals as goal
use Rattle.patternfile.proofs.judge.Goals.{In_ok-need}

pub returns-in_err-n : goal.returns-in_err-n
returns-in_err-n c =
    let e : c.from_residual.result ≡ Err c.in_err-n.field-0.0 = search rules in
    rw e (stopped_item (to_states c.args.room c.args.bytes.now) c.in_err-n.ensures)

pub returns-in_err-k : goal.returns-in_err-k
returns-in_err-k c =
    let e : c.from_residual-in_err-k.result ≡ Err c.in_err-k.field-0.0 = search rules in
    rw e (stopped_item (reached_item (to_states c.args.room c.args.bytes.now) c.in_ok-n.ensures) c.in_err-k.ensures)

pub overflow_mul-count : goal.overflow_mul-count
overflow_mul-count c = let sized : Sized c.in_ok-n.n.value c.in_ok-k.k.value = sizes_fine c.args.room c.args.bytes.now c.in_ok-n.ensures c.in_ok-k.ensures in grind (arith, common_steps)

-- NO-ROOM
pub returns-in_err-need : goal.returns-in_err-need
returns-in_err-need c =
    let e : c.from_residual-in_err-need.result ≡ Err c.in_err-need.field-0.0 = search rules in
    let (small, is) = need_failed c.in_err-need.ensures in
    rw (e, is) (stop_room c.args.room c.args.bytes.now c.in_ok-n.ensures c.in_ok-k.ensures small)

-- n and k are read, and the buffer has room
at_finals : (c : In_ok-need)
    → Reached (pattern_format c.args.room) c.args.bytes.now 0 (c.in_ok-n.n.value ∷ c.in_ok-k.k.value ∷ []) (sets_then c.in_ok-n.n.value c.in_ok-k.k.value ended) c.in_ok-k.k.next
at_finals c = to_finals c.args.room c.args.bytes.now c.in_ok-n.ensures c.in_ok-k.ensures (need_held _ c.in_ok-need.ensures)

pub returns-in_err-finals : goal.returns-in_err-finals
returns-in_err-finals c =
    let e : c.from_residual-in_err-finals.result ≡ Err c.in_err-finals.field-0.0 = search rules in
    rw e (stopped_item (at_finals (goal.at.returns-in_err-finals c).In_ok-need) c.in_err-finals.ensures)

pub returns-in_err-at_x : goal.returns-in_err-at_x
returns-in_err-at_x c =
    let e : c.from_residual-in_err-at_x.result ≡ Err c.in_err-at_x.field-0.0 = search rules in
    let rows = reached_item (at_finals (goal.at.returns-in_err-at_x c).In_ok-need) c.in_ok-finals.ensures in
    rw e (stop_rows c.args.room c.args.bytes.now c.in_ok-n.n.value c.in_ok-k.k.value rows c.in_err-at_x.ensures)

pub returns-in_err-x : goal.returns-in_err-x
returns-in_err-x c =
    let e : c.from_residual-in_err-x.result ≡ Err c.in_err-x.field-0.0 = search rules in
    let rows = reached_item (at_finals (goal.at.returns-in_err-x c).In_ok-need) c.in_ok-finals.ensures in
    let x = to_x c.args.room c.args.bytes.now c.in_ok-n.n.value c.in_ok-k.k.value rows c.in_ok-at_x.ensures.1 in
    rw e (stopped_item x c.in_err-x.ensures)

pub returns-in_err-y : goal.returns-in_err-y
returns-in_err-y c =
    let e : c.from_residual-in_err-y.result ≡ Err c.in_err-y.field-0.0 = search rules in
    let rows = reached_item (at_finals (goal.at.returns-in_err-y c).In_ok-need) c.in_ok-finals.ensures in
    let x = to_x c.args.room c.args.bytes.now c.in_ok-n.n.value c.in_ok-k.k.value rows c.in_ok-at_x.ensures.1 in
    rw e (stopped_item (reached_item x c.in_ok-x.ensures) c.in_err-y.ensures)

pub returns : goal.returns
returns c =
    let rows = reached_item (at_finals (goal.at.returns c).In_ok-need) c.in_ok-finals.ensures in
    let x = to_x c.args.room c.args.bytes.now c.in_ok-n.n.value c.in_ok-k.k.value rows c.in_ok-at_x.ensures.1 in
    all_read c.args.room c.args.bytes.now _ c.in_ok-at_x.ensures.0 c.in_ok-finals.finals.next c.in_ok-at_x.ensures.1 (reached_item (reached_item x c.in_ok-x.ensures) c.in_ok-y.ensures)
