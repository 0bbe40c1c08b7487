-- Records offered as evidence.
--   offer_for   the two sides of a list of pairs, column by column, offered for X and Y of a question
use Rattle.walk.specs.Walk.{Question}
use Rattle.walk.specs.Columns.{Columns}
use Rattle.evidence.specs.Evidence.{Offer}

abbrev pub offer_for : Question → Columns → Offer
offer_for Q pairs = record { pattern = Q.pattern; x = Q.left; y = Q.right; lefts = pairs.lefts; rights = pairs.rights }
