-- `evidencefile::read`: the two parts of the first pass give the answer unless bytes follow, and the second pass finds rows and pairs where they stand.
use Rattle.std.proofs.Common.{rules, ◌≡◌, ◌+◌, ℕ, List, Err, Fits, w8, get_or, ap, sym, arith}
use lib.Seq.{length-take-le}
use Rattle.numbers.specs.Numbers.{AreBytes}
use Rattle.numbers.proofs.TenBytes.{encode_ten}
use Rattle.patternfile.proofs.Filling.{filled_front}
use Rattle.evidencefile.specs.EvidenceFile.{lists_of}
use Rattle.evidencefile.proofs.Reading.{reads_stopped, reads_fault, reads_tail, reads_rows, reads_lefts, reads_rights, reads_placed, reads_done}
use Rattle.evidencefile.proofs.read.Goals as goal

as_bytes : {s : List ℕ} → ((i : ℕ) → Fits w8 (get_or s i 0)) → AreBytes s
as_bytes f = record { each = λ i. omega (arith, f i) }

pub returns-in_err-part : goal.returns-in_err-part
returns-in_err-part c =
    let old = lists_of c.args.rows.now c.args.lefts.now c.args.rights.now in
    let e : c.from_residual.result ≡ Err c.in_err-part.field-0.0 = search rules in
    rw e (reads_stopped c.args.bytes.now old c.in_err-part.ensures)

pub returns-in_err-count : goal.returns-in_err-count
returns-in_err-count c =
    let old = lists_of c.args.rows.now c.args.lefts.now c.args.rights.now in
    let e : c.from_residual-in_err-count.result ≡ Err c.in_err-count.field-0.0 = search rules in
    rw e (reads_fault c.args.bytes.now old c.in_ok-part.part c.in_ok-part.ensures c.in_err-count.ensures)

-- TAIL
pub returns-in_err-no_tail : goal.returns-in_err-no_tail
returns-in_err-no_tail c =
    let old = lists_of c.args.rows.now c.args.lefts.now c.args.rights.now in
    let e : c.from_residual-in_err-no_tail.result ≡ Err c.in_err-no_tail.field-0.0 = search rules in
    rw (e, c.in_err-no_tail.ensures.1) (reads_tail c.args.bytes.now old c.in_ok-part.part c.in_ok-part.ensures c.in_ok-count.count c.in_ok-count.ensures c.in_err-no_tail.ensures.0)

pub overflow_add-at_rows : goal.overflow_add-at_rows
overflow_add-at_rows c = omega (arith, encode_ten c.in_ok-part.part.numbers.finals)

pub overflow_add-at_pairs : goal.overflow_add-at_pairs
overflow_add-at_pairs c =
    let old = lists_of c.args.rows.now c.args.lefts.now c.args.rights.now in
    omega (
      arith,
      reads_placed c.args.bytes.now old c.in_ok-part.part c.in_ok-part.ensures c.in_ok-count.count c.in_ok-count.ensures (as_bytes c.type_inv.bytes) c.in_ok-no_tail.ensures,
    )

pub overflow_mul-found : goal.overflow_mul-found
overflow_mul-found c =
    let old = lists_of c.args.rows.now c.args.lefts.now c.args.rights.now in
    omega (arith, reads_rows c.args.bytes.now old c.in_ok-part.part c.in_ok-part.ensures c.in_ok-count.count c.in_ok-count.ensures (as_bytes c.type_inv.bytes))

pub slice_bounds-fill-end : goal.slice_bounds-fill-end
slice_bounds-fill-end c =
    let old = lists_of c.args.rows.now c.args.lefts.now c.args.rights.now in
    reads_rows c.args.bytes.now old c.in_ok-part.part c.in_ok-part.ensures c.in_ok-count.count c.in_ok-count.ensures (as_bytes c.type_inv.bytes)

pub slice_bounds-fill-end-2 : goal.slice_bounds-fill-end-2
slice_bounds-fill-end-2 c =
    let old = lists_of c.args.rows.now c.args.lefts.now c.args.rights.now in
    sym (length-take-le _ c.args.rows.now (reads_rows c.args.bytes.now old c.in_ok-part.part c.in_ok-part.ensures c.in_ok-count.count c.in_ok-count.ensures (as_bytes c.type_inv.bytes)))

pub fill_pairs-requires-clause-lefts_fit : goal.fill_pairs-requires-clause-lefts_fit
fill_pairs-requires-clause-lefts_fit c =
    let old = lists_of c.args.rows.now c.args.lefts.now c.args.rights.now in
    reads_lefts c.args.bytes.now old c.in_ok-part.part c.in_ok-part.ensures c.in_ok-count.count c.in_ok-count.ensures (as_bytes c.type_inv.bytes)

pub fill_pairs-requires-clause-rights_fit : goal.fill_pairs-requires-clause-rights_fit
fill_pairs-requires-clause-rights_fit c =
    let old = lists_of c.args.rows.now c.args.lefts.now c.args.rights.now in
    reads_rights c.args.bytes.now old c.in_ok-part.part c.in_ok-part.ensures c.in_ok-count.count c.in_ok-count.ensures (as_bytes c.type_inv.bytes)

pub returns : goal.returns
returns c =
    let old = lists_of c.args.rows.now c.args.lefts.now c.args.rights.now in
    let are = as_bytes c.type_inv.bytes in
    let room = reads_rows c.args.bytes.now old c.in_ok-part.part c.in_ok-part.ensures c.in_ok-count.count c.in_ok-count.ensures are in
    reads_done c.args.bytes.now old c.in_ok-part.part c.in_ok-part.ensures c.in_ok-count.count c.in_ok-count.ensures are c.in_ok-no_tail.ensures
    (ap (λ (m : ℕ). 2 + m) c.size-at_rows.ensures) (ap (λ (m : ℕ). c.in_ok-part.part.end + m) c.size.ensures)
    (filled_front room (rw (length-take-le _ c.args.rows.now room) at c.fill.ensures)) c.fill_pairs.ensures
