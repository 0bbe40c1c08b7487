-- `checking::report` asks and puts the line of what was asked.
use Rattle.std.proofs.Common.{arith, rules}
use Rattle.text.proofs.Lines.{refusal_short}
use Rattle.text.specs.Text.{refusal_text}
use Rattle.checking.specs.Checking.{Prints}
use Rattle.checking.proofs.Reporting.{reported, refusal_printed, answer_printed, answer_short}
use Rattle.checking.proofs.report.Goals.{in-Ok, in-Err}
use Rattle.checking.proofs.report.Goals as goal

pub put_refusal-requires : goal.put_refusal-requires
put_refusal-requires c = record { fits = omega (arith, refusal_short c.from.result c.in-Err.field-0.place, c.requires.room_in_bounds) }

pub put_answer-requires : goal.put_answer-requires
put_answer-requires c = record { fits = omega (arith, answer_short c.in-Ok.answer, c.requires.room_in_bounds) }

pub returns-clause-reports : goal.returns-clause-reports
returns-clause-reports c =
    elim c.match-ask.branch [
      | in-Ok w ↦ reported (answer_printed w.in-Ok.ensures) (search rules)
      | in-Err w ↦
          let prints : Prints c.args.bytes.now (refusal_text w.from.result w.in-Err.field-0.place) = rw w.from.ensures (refusal_printed w.in-Err.ensures) in
          reported prints (search rules)
    ]
