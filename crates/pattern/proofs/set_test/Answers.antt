-- `pattern::set_test` is the definition of that name: a mask shifted down by n is 0 exactly where it is below 2 ^ n.
use mathlib.Core.Path.{refl}
use borrow.Author.Tests.{lt-ltb}
use native.Mathlib.Nat.{lt_of_lt_of_le}
use lib.Pow.{pow_mono}
use Rattle.verdict.specs.Tests.{need}
use Rattle.verdict.proofs.Refusals.{said_held}
use Rattle.pattern.specs.Tests.{set_test}
use Rattle.pattern.proofs.Validity.{set_shift}
use Rattle.pattern.proofs.set_test.Goals as goal

pub returns-then-states-ge-MASK_BITS : goal.returns-then-states-ge-MASK_BITS
unfolding set_test need
returns-then-states-ge-MASK_BITS c = rw (lt-ltb _ _ (lt_of_lt_of_le c.ranges.mask.fits (pow_mono c.if-states-ge-MASK_BITS.true))) refl

pub returns : goal.returns
unfolding set_test
returns c = rw (set_shift _ _, c.need.ensures) (said_held _ _)
