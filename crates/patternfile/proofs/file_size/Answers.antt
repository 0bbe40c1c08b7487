-- `patternfile::file_size` is the sizes of the file's three parts.
use native.Mathlib.Omega.{arith}
use Rattle.pattern.specs.Lent.{pattern_in}
use Rattle.patternfile.proofs.Storing.{part_ten, parts_size}
use Rattle.patternfile.proofs.file_size.Goals as goal

-- ten bytes for each number at most: no sum wraps
pub overflow_add-result : goal.overflow_add-result
overflow_add-result c =
    let q = c.args.question.now in
    omega (arith, parts_size (pattern_in q.pattern) q.x q.y, part_ten (pattern_in q.pattern) q.x q.y)

pub overflow_add-result-2 : goal.overflow_add-result-2
overflow_add-result-2 c =
    let q = c.args.question.now in
    omega (arith, parts_size (pattern_in q.pattern) q.x q.y, part_ten (pattern_in q.pattern) q.x q.y)

pub returns : goal.returns
returns c =
    let q = c.args.question.now in
    omega (arith, parts_size (pattern_in q.pattern) q.x q.y)
