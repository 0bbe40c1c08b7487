-- `patternfile::write`: once the tests are passed, there is room for the pattern's numbers.
use mathlib.Core.Path.{sym}
use native.Mathlib.Omega.{arith}
use lib.ListN.{length}
use Rattle.pattern.specs.Lent.{pattern_in}
use Rattle.patternfile.proofs.Refusals.{write_fine}
use Rattle.patternfile.proofs.write.Goals as goal

pub put_pattern-requires : goal.put_pattern-requires
put_pattern-requires c =
    let q = c.args.question.now in
    let allowed = (write_fine (pattern_in q.pattern) q.x q.y (length c.args.out.now)).0 (sym c.in_ok-write_test.ensures) in
    record { fits = omega (arith, allowed.enough) }
