-- PROVED means that the languages are equal, whoever wrote the list. Assumes nothing.
use mathlib.Core.List.{List}
use Prim.Native.Nat.{ℕ}
use lib.ListN.{length}
use Rattle.std.specs.Prelude.{Ok}
use Rattle.pattern.specs.Pattern.{Pattern}
use Rattle.pattern.specs.Language.{SameLanguage}
use Rattle.congruence.specs.Congruence.{Listed}
use Rattle.congruence.specs.Progress.{Progress}
use Rattle.congruence.proofs.UpTo.{up_to_congruence}
use Rattle.evidence.specs.Evidence.{Offer, HoldBelow, Checked}
use Rattle.evidence.specs.Evidence.Checked.{started}
use Rattle.evidence.specs.Evidence.ByPairs.{all_hold}
use Rattle.evidence.specs.declared.Answer.TheVariants.{Proved}

-- a list whose pairs all hold is a bisimulation up to congruence
list_progress : {P : Pattern} {lefts rights : List ℕ} → HoldBelow P lefts rights (length lefts) → Progress P (Listed lefts rights)
list_progress {P} {lefts} {rights} f = record { each = λ a b r. rw (← r.left, ← r.right) (f r.at r.below) }

-- whoever wrote the list: PROVED, and the languages are equal
pub evidence_means_same : {o : Offer} → Checked o (Ok Proved) → SameLanguage o.pattern o.x o.y
evidence_means_same (started fine start (all_hold f)) = up_to_congruence (list_progress f) start
