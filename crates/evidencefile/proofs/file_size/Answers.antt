-- `evidencefile::file_size` is the size of the pattern's numbers, of the count and of the two sides.
use native.Mathlib.Omega.{arith}
use lib.ListN.{length}
use Rattle.numbers.proofs.ListLoops.{all_ten}
use Rattle.numbers.proofs.TenBytes.{encode_ten}
use Rattle.pattern.specs.Lent.{pattern_in}
use Rattle.patternfile.proofs.Storing.{part_ten}
use Rattle.evidence.specs.Lent.{offer_in}
use Rattle.evidencefile.proofs.Storing.{sizes_add}
use Rattle.evidencefile.proofs.file_size.Goals as goal

-- ten bytes for each number at most: no sum wraps
pub overflow_add-result : goal.overflow_add-result
overflow_add-result c =
    let o = c.args.offer.now in
    omega (arith, c.file_size.ensures, c.size.ensures, encode_ten (length o.lefts.now), part_ten (pattern_in o.pattern) o.x o.y)

pub overflow_add-result-2 : goal.overflow_add-result-2
overflow_add-result-2 c =
    let o = c.args.offer.now in
    omega (arith, c.file_size.ensures, c.size.ensures, encode_ten (length o.lefts.now), part_ten (pattern_in o.pattern) o.x o.y, c.size_all.ensures, all_ten o.lefts.now, c.requires.pairs_fit)

pub overflow_add-result-3 : goal.overflow_add-result-3
overflow_add-result-3 c =
    let o = c.args.offer.now in
    omega (
      arith,
      c.file_size.ensures,
      c.size.ensures,
      encode_ten (length o.lefts.now),
      part_ten (pattern_in o.pattern) o.x o.y,
      c.size_all.ensures,
      all_ten o.lefts.now,
      c.size_all-2.ensures,
      all_ten o.rights.now,
      c.requires.pairs_fit,
      c.requires.sides_match,
    )

pub returns : goal.returns
returns c = omega (arith, sizes_add (offer_in c.args.offer.now) c.requires.sides_match)
