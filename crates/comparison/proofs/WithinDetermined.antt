-- `within_determined`: two results that the contract of `within` allows on the same input are equal: the answer, its numbers, and all that was lent.
-- Assumes nothing.
use mathlib.Core.Path.{◌≡◌, sym, ap, ◌∙◌}
use Rattle.comparison.specs.Answers.{Lent, Call}
use Rattle.comparison.specs.Inclusion.{AnsweredOneWay, answered_one_way, Included}
use Rattle.comparison.proofs.CompareDetermined.{compare_determined}
use Rattle.comparison.proofs.Joining.{included_compared}

pub within_determined : {c : Call} {a a' : AnsweredOneWay} {l l' : Lent} → Included c a l → Included c a' l' → (a ≡ a') × (l ≡ l')
within_determined j k =
    let (b, p, e) = included_compared j in
    let (b', p', e') = included_compared k in
    let (same, left) = compare_determined p p' in
    (e ∙ ap answered_one_way same ∙ sym e', left)
