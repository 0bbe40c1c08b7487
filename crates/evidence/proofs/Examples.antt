-- NOT-PROVED does not mean that the languages differ: a set offered against itself, with a needless pair that fails. Assumes nothing.
use mathlib.Core.Path.{◌≡◌, refl}
use mathlib.Core.List.{[], ◌∷◌}
use Prim.Native.Nat.{ℕ, zero, suc}
use Rattle.std.specs.Prelude.{Ok}
use native.Mathlib.Nat.{le_of_suc-le-suc, not-suc-le-zero}
use native.Mathlib.Omega.{arith}
use Rattle.verdict.specs.Verdict.Verdict.{Fine}
use Rattle.verdict.specs.Tests.{need, in_order, each}
use Rattle.sets.specs.Sets.{meets}
use Rattle.pattern.specs.Tests.{size_test, table_test, set_test, shape_test, masks_test}
use Rattle.pattern.specs.Language.{accepts, reach, SameLanguage}
use Rattle.congruence.specs.Congruence.Congruent.{same}
use Rattle.evidence.specs.Evidence.{Offer, offer_of, HoldsAt, HoldBelow, list_test, pairs_test, check_test, Checked}
use Rattle.evidence.specs.Evidence.ByPairs.{fails}
use Rattle.evidence.specs.Evidence.Checked.{started}
use Rattle.evidence.specs.declared.Answer.TheVariants.{NotProved}

-- one final state, one letter that leads nowhere; the pairs (1, 1) and (1, 0)
abbrev pub needless : Offer
needless = offer_of 1 1 1 (0 ∷ []) 1 1 (1 ∷ 1 ∷ []) (1 ∷ 0 ∷ [])

not_refused : check_test needless ≡ Fine
unfolding check_test list_test pairs_test shape_test masks_test size_test table_test set_test each in_order need
not_refused = refl

first_holds : HoldBelow needless.pattern needless.lefts needless.rights 1
first_holds zero l = record { agrees = refl; steps = λ letter h. same _ }
first_holds (suc j) l = absurd (not-suc-le-zero (le_of_suc-le-suc l))

second_fails : HoldsAt needless.pattern needless.lefts needless.rights 1 → ⊥
unfolding accepts reach meets
second_fails h = let e = h.agrees in let z : ◌≡◌ {A = ℕ} 0 1 = cc in omega arith

pub not_proved_yet_same : Checked needless (Ok (NotProved 1)) × SameLanguage needless.pattern needless.x needless.y
not_proved_yet_same = (
  started not_refused (same 1) (fails {i = 1} (omega arith) first_holds second_fails),
  record { words = λ w o. refl },
)
