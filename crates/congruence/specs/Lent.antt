-- A list of pairs of the code, as the definitions see it: the pairs that it lists.
use Rattle.std.specs.Prelude.{ℕ}
use Rattle.congruence.specs.declared.Pairs.{Pairs}
use Rattle.congruence.specs.Congruence.{Listed}

abbrev pub listed_in : Pairs → ℕ → ℕ → Type 0
listed_in p = Listed p.lefts.now p.rights.now
