-- `sets::within` decides inclusion.
use borrow.Author.Tests.{eqb-true, eqb-false}
use Rattle.sets.proofs.Inclusion.{within_test}
use Rattle.sets.proofs.within.Goals as goal

pub returns : goal.returns
returns c =
    let test = within_test c.args.a c.args.c in
    record { sound = λ e. test.0 (eqb-true _ _ e); complete = λ e w. eqb-false _ _ e (test.1 w) }
