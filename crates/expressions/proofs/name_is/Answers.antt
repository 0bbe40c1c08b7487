-- What was put into the buffer is the name, and no name is longer than nine bytes.
use mathlib.Core.Path.{sym}
use native.Mathlib.Omega.{arith}
use lib.Seq.{length-take-le}
use Rattle.lent.proofs.Filling.{puts_length}
use Rattle.lent.proofs.Putting.{put_ending}
use Rattle.events.proofs.Names.{name_short}
use Rattle.expressions.proofs.name_is.Goals as goal

pub put_name-requires : goal.put_name-requires
put_name-requires c = record { fits = omega (arith, name_short c.args.letter (omega arith)) }

pub slice_bounds-eq-end : goal.slice_bounds-eq-end
slice_bounds-eq-end c =
    let page = c.put_name.new.page in
    sym (length-take-le page.at page.out.now (omega (arith, puts_length c.put_name.ensures)))

pub returns : goal.returns
returns c = rw (← put_ending c.put_name.ensures.put) c.eq.ensures
