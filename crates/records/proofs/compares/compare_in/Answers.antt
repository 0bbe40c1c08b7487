-- `records::compares::compare_in` leaves in the list what the comparison leaves in its tables, where that answers in the room asked for.
use Rattle.std.proofs.Common.{◌≡◌, refl, rules, Ok, Err, arith}
use Rattle.walk.proofs.Columns.{fit_less}
use Rattle.records.specs.Answers.{compare_answer}
use Rattle.records.specs.Inner.{columns_lent, filled}
use Rattle.records.proofs.Finding.{finding, refused_tried, tried_word}
use Rattle.records.proofs.compares.compare_in.Goals as goal
use Rattle.records.proofs.compares.compare_in.Goals.{else-room-via-then-room+else-is_full, else-room-via-else-room}

pub returns-in_err-answer : goal.returns-in_err-answer
returns-in_err-answer g c =
    let e : c.from_residual.result ≡ Err c.in_err-answer.field-0.0 = search rules in
    rw e (tried_word (search rules) (refused_tried c.in_err-answer.ensures.compared c.asked-asks.ensures))

pub returns-then-is_full : goal.returns-then-is_full
returns-then-is_full g c =
    let found = finding c.in_ok-answer.ensures.compared c.asked-asks.ensures in
    tried_word (search rules) (record {
      answered = λ n. absurd (n c.if-room.true (c.is_full.ensures.sound c.if-is_full.true));
      full = λ h z. let (most, same) = found.full h z in (most, refl, same);
    })

pub fill-requires-clause-columns_fit : goal.fill-requires-clause-columns_fit
fill-requires-clause-columns_fit g c = fit_less (omega arith) (finding c.in_ok-answer.ensures.compared c.asked-asks.ensures).fits

pub fill-requires-clause-list_fits : goal.fill-requires-clause-list_fits
fill-requires-clause-list_fits g c = omega (arith, (finding c.in_ok-answer.ensures.compared c.asked-asks.ensures).within)

pub returns : goal.returns
returns g c =
    let found = finding c.in_ok-answer.ensures.compared c.asked-asks.ensures in
    tried_word {word = c.compare.new.tables.sequence.now} (search rules) (record {
      answered = λ n. let written : c.fill.new.records ≡ filled (columns_lent c.compare.new.tables) c.args.records.now (compare_answer (Ok c.in_ok-answer.answer)).kept = search rules in rw written (found.answered n);
      full = λ h z.
          absurd (elim c.else-room.branch [ else-room-via-then-room+else-is_full w ↦ w.is_full.ensures.complete w.if-is_full.false z | else-room-via-else-room w ↦ omega (arith, w.if-room.false, h) ]);
    })
