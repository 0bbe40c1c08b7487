-- `compare_determined`: two results that the contract allows on the same input are equal: the answer, its numbers, and all that was lent. Assumes nothing.
use Rattle.std.specs.Prelude.{Err}
use mathlib.Core.Path.{◌≡◌, refl, ap}
use Rattle.verdict.proofs.Refusals.{one_refusal}
use Rattle.verdict.proofs.Ordered.{apart, one_number}
use Rattle.sets.specs.Rooms.{default_room}
use Rattle.walk.specs.Walk.{Question, Outcome, kept_of, word_of}
use Rattle.comparison.specs.Answers.{Answered, Lent, Call, answer_of, lay_out, Compared}
use Rattle.comparison.specs.Answers.Compared.{refuses, walks}
use Rattle.walk.proofs.WalkUnique.{walk_unique}

pub compare_determined : {c : Call} {a a' : Answered} {l l' : Lent} → Compared c a l → Compared c a' l' → (a ≡ a') × (l ≡ l')
compare_determined (refuses p) (refuses q) = (ap Err (one_refusal (one_number p q)), refl)
compare_determined (refuses p) (walks f w) = apart f p
compare_determined (walks f w) (refuses p) = apart f p
compare_determined {c} (walks f v) (walks g w) =
    let e = walk_unique v w in
    (ap answer_of e, ap (λ (o : Outcome). lay_out (kept_of o) (word_of o) c.lent) e)

-- the short form, which is a comparison in the default room
pub compare_default_determined : {Q : Question} {lent : Lent} {a a' : Answered} {l l' : Lent}
    → Compared (record { question = Q; room = default_room; lent = lent }) a l → Compared (record { question = Q; room = default_room; lent = lent }) a' l'
    → (a ≡ a') × (l ≡ l')
compare_default_determined p q = compare_determined p q
