-- `checking::ask` reads the file and hands on its refusal, or checks its pairs and hands on the answer.
use Rattle.std.proofs.Common.{◌≡◌, ℕ, ◌≤◌, List, length, get_or, Fits, w8, rules, Err, arith, sym}
use lib.Seq.{length-take-le}
use Rattle.numbers.specs.Numbers.{AreBytes}
use Rattle.evidencefile.specs.EvidenceFile.{Lists, lists_of}
use Rattle.checking.proofs.Asking.{refused_answers, few_rows, few_lefts, few_rights, accepted_answers, accepted_checked}
use Rattle.checking.proofs.ask.Goals as goal

as_bytes : {s : List ℕ} → ((i : ℕ) → Fits w8 (get_or s i 0)) → AreBytes s
as_bytes f = record { each = λ i. omega (arith, f i) }

pub returns-in_err-file : goal.returns-in_err-file
returns-in_err-file c =
    let e : c.from_residual.result ≡ Err c.in_err-file.field-0.0 = search rules in
    rw e (refused_answers _ _ _ (as_bytes c.type_inv.bytes) c.requires c.in_err-file.ensures)

-- what is lent, and what the reader left
old : goal.After-pattern → Lists
old c = lists_of c.args.rows.now c.args.lefts.now c.args.rights.now

left : goal.After-pattern → Lists
left c = lists_of c.read.new.rows c.read.new.lefts c.read.new.rights

lefts_there : (c : goal.After-pattern) → c.in_ok-file.file.pairs ≤ length c.args.lefts.now
unfolding old left
lefts_there c = few_lefts c.args.bytes.now (old c) (left c) (as_bytes c.type_inv.bytes) c.requires c.in_ok-file.ensures

rights_there : (c : goal.After-pattern) → c.in_ok-file.file.pairs ≤ length c.args.rights.now
unfolding old left
rights_there c = few_rights c.args.bytes.now (old c) (left c) (as_bytes c.type_inv.bytes) c.requires c.in_ok-file.ensures

pub pattern-requires : goal.pattern-requires
pattern-requires c =
    omega (
      arith,
      few_rows c.args.bytes.now (lists_of c.args.rows.now c.args.lefts.now c.args.rights.now) (lists_of c.read.new.rows c.read.new.lefts c.read.new.rights)
          (as_bytes c.type_inv.bytes) c.requires c.in_ok-file.ensures,
      c.read.auto.rows,
    )

pub slice_bounds-offer-end : goal.slice_bounds-offer-end
slice_bounds-offer-end c = omega (arith, lefts_there c, c.read.auto.lefts)

pub slice_bounds-offer-end-2 : goal.slice_bounds-offer-end-2
slice_bounds-offer-end-2 c = sym (length-take-le c.in_ok-file.file.pairs c.read.new.lefts (omega (arith, lefts_there c, c.read.auto.lefts)))

pub slice_bounds-offer-end-3 : goal.slice_bounds-offer-end-3
slice_bounds-offer-end-3 c = omega (arith, rights_there c, c.read.auto.rights)

pub slice_bounds-offer-end-4 : goal.slice_bounds-offer-end-4
slice_bounds-offer-end-4 c = sym (length-take-le c.in_ok-file.file.pairs c.read.new.rights (omega (arith, rights_there c, c.read.auto.rights)))

pub returns-in_err-check : goal.returns-in_err-check
returns-in_err-check c =
    absurd
    (accepted_checked c.args.bytes.now (lists_of c.args.rows.now c.args.lefts.now c.args.rights.now) (lists_of c.read.new.rows c.read.new.lefts c.read.new.rights)
    (as_bytes c.type_inv.bytes) c.requires c.in_ok-file.ensures c.pattern.ensures c.in_err-check.ensures)

pub returns : goal.returns
returns c =
    accepted_answers c.args.bytes.now (lists_of c.args.rows.now c.args.lefts.now c.args.rights.now) (lists_of c.read.new.rows c.read.new.lefts c.read.new.rights)
    (as_bytes c.type_inv.bytes) c.requires c.in_ok-file.ensures c.pattern.ensures c.in_ok-check.ensures
