-- `comparison::compare` refuses by its tests, or makes the walk.
use Rattle.std.proofs.Common.{◌≡◌, rules, Err, sym}
use Rattle.comparison.specs.Answers.Compared.{refuses}
use Rattle.comparison.proofs.Dealing.{same_here}
use Rattle.comparison.proofs.compare.Goals as goal

pub returns-in_err-compare_test : goal.returns-in_err-compare_test
returns-in_err-compare_test c =
    let e : c.from_residual.result ≡ Err c.in_err-compare_test.field-0.0 = search rules in
    rw e (record { compared = refuses (sym c.in_err-compare_test.ensures); same_tables = same_here })

pub run-requires : goal.run-requires
run-requires c = sym c.in_ok-compare_test.ensures
