-- An offer of the code, as the definitions see it.
use Rattle.pattern.specs.Lent.{pattern_in}
use Rattle.evidence.specs.declared.Offer.{Offer as Lent}
use Rattle.evidence.specs.Evidence.{Offer}

abbrev pub offer_in : Lent → Offer
offer_in o = record { pattern = pattern_in o.pattern; x = o.x; y = o.y; lefts = o.lefts.now; rights = o.rights.now }
