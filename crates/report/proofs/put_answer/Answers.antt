-- `report::put_answer` puts the answer's first line; after SAME the records, after DIFFERENT the sequence.
use Rattle.lent.proofs.Filling.{first_fits, second_fits, both_put}
use Rattle.report.specs.Inner.{answer_text}
use Rattle.report.proofs.Lengths.{text_fits}
use Rattle.report.proofs.Answered.{answer_same, answer_different}
use Rattle.report.proofs.put_answer.Goals as goal

-- ---- SAME

pub put_head-requires : goal.put_head-requires
put_head-requires c =
    first_fits (text_fits c.requires c.all_bytes.ensures.each)
    (answer_same c.args.tables.now.lefts.now c.args.tables.now.rights.now c.args.tables.now.sequence.now c.in-Same.is)

pub put_records-requires : goal.put_records-requires
put_records-requires c =
    second_fits (text_fits c.requires c.all_bytes.ensures.each)
    (answer_same c.args.tables.now.lefts.now c.args.tables.now.rights.now c.args.tables.now.sequence.now c.in-Same.is)
    c.put_head.ensures

pub returns-in-Same : goal.returns-in-Same
returns-in-Same c = both_put (answer_same c.args.tables.now.lefts.now c.args.tables.now.rights.now c.args.tables.now.sequence.now c.in-Same.is) c.put_head.ensures c.put_records.ensures

-- ---- DIFFERENT

pub put_head-requires-in-Different : goal.put_head-requires-in-Different
put_head-requires-in-Different c =
    first_fits (text_fits c.requires c.all_bytes.ensures.each)
    (answer_different c.args.tables.now.lefts.now c.args.tables.now.rights.now c.args.tables.now.sequence.now c.in-Different.is)

pub put_line-requires : goal.put_line-requires
put_line-requires c =
    second_fits (text_fits c.requires c.all_bytes.ensures.each)
    (answer_different c.args.tables.now.lefts.now c.args.tables.now.rights.now c.args.tables.now.sequence.now c.in-Different.is)
    c.put_head-in-Different.ensures

pub returns-in-Different : goal.returns-in-Different
returns-in-Different c =
    both_put (answer_different c.args.tables.now.lefts.now c.args.tables.now.rights.now c.args.tables.now.sequence.now c.in-Different.is) c.put_head-in-Different.ensures c.put_line.ensures

-- ---- FULL

pub put_head-requires-in-Full : goal.put_head-requires-in-Full
unfolding answer_text
put_head-requires-in-Full c = rw c.in-Full.is at (text_fits c.requires c.all_bytes.ensures.each)

pub returns-in-Full : goal.returns-in-Full
unfolding answer_text
returns-in-Full c = rw c.in-Full.is c.put_head-in-Full.ensures
