-- The scope's list (2,4), (1,2): 1 closes to 7, and so does 4 (§11). One pass would leave 1 at 3. Assumes nothing.
use mathlib.Core.List.{List, [], ◌∷◌}
use Prim.Native.Nat.{ℕ}
use Rattle.congruence.specs.Congruence.{Listed}
use Rattle.congruence.specs.Closing.{added, Closes}
use Rattle.congruence.proofs.Passes.{passed}
use Rattle.congruence.proofs.Computed.{passes, joined, top, closing, closing_closes}

abbrev lefts : List ℕ
lefts = 2 ∷ 1 ∷ []

abbrev rights : List ℕ
rights = 4 ∷ 2 ∷ []

pub one_closes_to_seven : Closes (Listed lefts rights) 1 7
unfolding closing top joined passes passed added
one_closes_to_seven = closing_closes lefts rights 1

pub four_closes_to_seven : Closes (Listed lefts rights) 4 7
unfolding closing top joined passes passed added
four_closes_to_seven = closing_closes lefts rights 4
