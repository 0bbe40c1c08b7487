-- `evidencefile::write_test` makes the tests of the check, and then the writer's own.
use Rattle.std.proofs.Common.{rules, sym}
use Rattle.verdict.proofs.Refusals.{stops, goes_on, ends, said_held}
use Rattle.pattern.specs.Tests.{space_test}
use Rattle.evidence.proofs.Validity.{offer_valid}
use Rattle.evidencefile.specs.Writer.{write_test}
use Rattle.evidencefile.proofs.write_test.Goals as goal

pub returns-in_err-check_test : goal.returns-in_err-check_test
unfolding write_test
returns-in_err-check_test c = stops _ (search rules) c.in_err-check_test.ensures

pub file_size-requires : goal.file_size-requires
file_size-requires c = (offer_valid _).0 (sym c.in_ok-check_test.ensures)

pub returns : goal.returns
unfolding write_test space_test
returns c = goes_on _ c.in_ok-check_test.ensures (ends (rw (c.need.ensures, c.file_size.ensures) (said_held _ _)))
