-- `report::report` asks and puts the refusal's text, or the answer's.
use Rattle.std.proofs.Common.{arith, rules}
use Rattle.text.specs.Text.{refusal_text}
use Rattle.text.proofs.Lines.{refusal_short}
use Rattle.report.specs.Report.{Prints}
use Rattle.report.proofs.Reporting.{reported, refusal_printed, answer_printed, answer_printable}
use Rattle.report.proofs.report.Goals.{in-Ok, in-Err}
use Rattle.report.proofs.report.Goals as goal

pub put_refusal-requires : goal.put_refusal-requires
put_refusal-requires c = record { fits = omega (arith, refusal_short c.from.result c.in-Err.field-0.place, c.requires.room_in_bounds) }

pub put_answer-requires : goal.put_answer-requires
put_answer-requires c =
    let roomy = c.requires.lends.roomy in
    answer_printable (record { each = λ i. omega (arith, c.type_inv.bytes i) }) roomy c.in-Ok.ensures.answers (omega (arith, c.requires.room_in_bounds))

pub returns-clause-reports : goal.returns-clause-reports
returns-clause-reports c =
    elim c.match-ask.branch [
      | in-Ok w ↦ reported (answer_printed w.in-Ok.ensures.answers) (search rules)
      | in-Err w ↦
          let prints : Prints c.args.room c.args.bytes.now (refusal_text w.from.result w.in-Err.field-0.place) = rw w.from.ensures (refusal_printed w.in-Err.ensures.answers) in
          reported prints (search rules)
    ]
