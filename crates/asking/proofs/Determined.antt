-- `one_answer`, `answers_determined`: the bytes and the room say what is answered, and what all that is lent then holds. Assumes nothing.
use mathlib.Core.Path.{◌≡◌, refl, ap, subst}
use mathlib.Core.List.{List}
use Prim.Native.Nat.{ℕ}
use Rattle.walk.specs.Walk.{Question, Outcome, kept_of, word_of, Walk}
use Rattle.walk.proofs.WalkUnique.{walk_unique}
use Rattle.std.specs.Prelude.{Ok, Err}
use Rattle.verdict.specs.declared.Fault.{Fault}
use Rattle.verdict.proofs.Refusals as Named
use Rattle.comparison.specs.Answers.{Lent, outcome_answer, lay_out}
use Rattle.asking.specs.Asking.{Asked, Asks, Answers}
use Rattle.asking.specs.Asking.Answers.{refuses, answers}
use Rattle.asking.proofs.Questions.{asks_one, asked_or_refused, one_refusal}

pub one_outcome : {room : ℕ} {input : List ℕ} {Q R : Question} {o p : Outcome} → Asks input Q → Asks input R → Walk Q room o → Walk R room p → o ≡ p
one_outcome {room} {p = p} a b v w = walk_unique v (subst (λ (Q : Question). Walk Q room p) (asks_one b a) w)

-- whatever was lent
pub one_answer : {room : ℕ} {input rows rows' : List ℕ} {lent lent' : Lent} {a a' : Asked} {r r' : List ℕ} {l l' : Lent}
    → Answers room input rows lent a r l → Answers room input rows' lent' a' r' l' → a ≡ a'
one_answer {input = input} (refuses {fault} r) (refuses {fault = fault'} s) =
    let (w, place) = one_refusal input r s in
    let why = Named.one_refusal w in
    ap (λ (f : Fault). Err f) (λ i. record { why = why i; place = place i })
one_answer (refuses r) (answers a w) = absurd (asked_or_refused a r)
one_answer (answers a w) (refuses r) = absurd (asked_or_refused a r)
one_answer (answers a v) (answers b w) = ap (λ (o : Outcome). Ok (outcome_answer o)) (one_outcome a b v w)

left_alike : {room : ℕ} {input rows : List ℕ} {lent : Lent} {a a' : Asked} {r r' : List ℕ} {l l' : Lent}
    → Answers room input rows lent a r l → Answers room input rows lent a' r' l' → (r ≡ r') × (l ≡ l')
left_alike (refuses r) (refuses s) = (refl, refl)
left_alike (refuses r) (answers a w) = absurd (asked_or_refused a r)
left_alike (answers a w) (refuses r) = absurd (asked_or_refused a r)
left_alike {lent = lent} (answers a v) (answers b w) = (rw (asks_one a b), ap (λ (o : Outcome). lay_out (kept_of o) (word_of o) lent) (one_outcome a b v w))

pub answers_determined : {room : ℕ} {input rows : List ℕ} {lent : Lent} {a a' : Asked} {r r' : List ℕ} {l l' : Lent}
    → Answers room input rows lent a r l → Answers room input rows lent a' r' l' → (a ≡ a') × (r ≡ r') × (l ≡ l')
answers_determined p q = let (rows, lent) = left_alike p q in (one_answer p q, rows, lent)
