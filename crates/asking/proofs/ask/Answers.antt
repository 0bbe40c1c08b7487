-- `asking::ask` reads the file and hands on its refusal, or compares and hands on the answer.
use Rattle.std.proofs.Common.{◌≡◌, ℕ, List, get_or, Fits, w8, rules, Err, arith}
use Rattle.numbers.specs.Numbers.{AreBytes}
use Rattle.comparison.proofs.Dealing.{same_here}
use Rattle.asking.proofs.Answering.{refused_answers, few_rows, accepted_answers, accepted_compared}
use Rattle.asking.proofs.ask.Goals as goal

as_bytes : {s : List ℕ} → ((i : ℕ) → Fits w8 (get_or s i 0)) → AreBytes s
as_bytes f = record { each = λ i. omega (arith, f i) }

pub returns-in_err-file : goal.returns-in_err-file
returns-in_err-file c =
    let e : c.from_residual.result ≡ Err c.in_err-file.field-0.0 = search rules in
    rw e (record { answers = refused_answers c.args.bytes.now c.args.rows.now c.read.new.rows c.requires.rows_fit c.in_err-file.ensures c.args.room _; same_tables = same_here })

pub pattern-requires : goal.pattern-requires
pattern-requires c =
    omega (arith, few_rows (record { bytes = as_bytes c.type_inv.bytes; size = c.requires.rows_fit; done = c.in_ok-file.ensures }), c.read.auto.rows)

pub returns-in_err-compare : goal.returns-in_err-compare
returns-in_err-compare c =
    absurd
    (accepted_compared (record { bytes = as_bytes c.type_inv.bytes; size = c.requires.rows_fit; done = c.in_ok-file.ensures }) c.pattern.ensures (omega arith) c.requires.roomy
    c.in_err-compare.ensures.compared)

pub returns : goal.returns
returns c = record {
  answers =
      accepted_answers (record { bytes = as_bytes c.type_inv.bytes; size = c.requires.rows_fit; done = c.in_ok-file.ensures }) c.pattern.ensures (omega arith) c.requires.roomy
      c.in_ok-compare.ensures.compared;
  same_tables = c.in_ok-compare.ensures.same_tables;
}
