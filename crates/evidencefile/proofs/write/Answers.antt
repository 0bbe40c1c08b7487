-- `evidencefile::write`: once the tests are passed, there is room for the file's parts, one after the other.
use Rattle.std.proofs.Common.{rules}
use mathlib.Core.Path.{sym}
use native.Mathlib.Omega.{arith}
use lib.ListN.{length}
use Rattle.lent.proofs.Filling.{first_fits, second_fits, both_put}
use Rattle.evidence.specs.Lent.{offer_in}
use Rattle.evidencefile.specs.Writer.{Allowed}
use Rattle.evidencefile.proofs.Refusals.{write_fine}
use Rattle.evidencefile.proofs.Storing.{part_first, count_then}
use Rattle.evidencefile.proofs.write.Goals as goal
use Rattle.evidencefile.proofs.write.Goals.{In_ok-write_test}

allowed : (c : In_ok-write_test) → Allowed (offer_in c.args.offer.now) (length c.args.out.now)
allowed c = (write_fine _ (length c.args.out.now)).0 (sym c.in_ok-write_test.ensures)

pub put_pattern-requires : goal.put_pattern-requires
put_pattern-requires c =
    first_fits (record { fits = omega (arith, (allowed (goal.at.put_pattern-requires c).In_ok-write_test).enough) }) (part_first (offer_in c.args.offer.now))

pub write-requires : goal.write-requires
write-requires c =
    let o = offer_in c.args.offer.now in
    first_fits (second_fits (record { fits = omega (arith, (allowed (goal.at.write-requires c).In_ok-write_test).enough) }) (part_first o) c.put_pattern.ensures) (count_then o)

pub invariant_of-pairs : goal.invariant_of-pairs
invariant_of-pairs c = record { paired = (allowed (goal.at.invariant_of-pairs c).In_ok-write_test).valid.sides_match }

pub put_pairs-requires : goal.put_pairs-requires
put_pairs-requires c =
    let o = offer_in c.args.offer.now in
    second_fits (second_fits (record { fits = omega (arith, (allowed (goal.at.put_pairs-requires c).In_ok-write_test).enough) }) (part_first o) c.put_pattern.ensures) (count_then o) c.write.ensures

pub returns : goal.returns
returns c =
    let o = offer_in c.args.offer.now in
    let all = both_put (part_first o) c.put_pattern.ensures (both_put (count_then o) c.write.ensures c.put_pairs.ensures) in
    record { allowed = sym c.in_ok-write_test.ensures; written = search (rules, all) }
