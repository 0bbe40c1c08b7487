-- `patternfile::put_pattern` puts the three parts one after the other.
use Rattle.lent.proofs.Filling.{first_fits, second_fits, both_put}
use Rattle.pattern.specs.Lent.{pattern_in}
use Rattle.patternfile.proofs.Storing.{head_first, rows_then}
use Rattle.patternfile.proofs.put_pattern.Goals as goal

pub write_all-requires : goal.write_all-requires
write_all-requires c = let q = c.args.question.now in first_fits c.requires (head_first (pattern_in q.pattern) q.x q.y)

pub write_all-requires-2 : goal.write_all-requires-2
write_all-requires-2 c =
    let q = c.args.question.now in
    first_fits (second_fits c.requires (head_first (pattern_in q.pattern) q.x q.y) c.write_all.ensures) (rows_then (pattern_in q.pattern) q.x q.y)

pub write_all-requires-3 : goal.write_all-requires-3
write_all-requires-3 c =
    let q = c.args.question.now in
    second_fits (second_fits c.requires (head_first (pattern_in q.pattern) q.x q.y) c.write_all.ensures) (rows_then (pattern_in q.pattern) q.x q.y) c.write_all-2.ensures

pub returns : goal.returns
returns c =
    let q = c.args.question.now in
    both_put (head_first (pattern_in q.pattern) q.x q.y) c.write_all.ensures (both_put (rows_then (pattern_in q.pattern) q.x q.y) c.write_all-2.ensures c.write_all-3.ensures)
