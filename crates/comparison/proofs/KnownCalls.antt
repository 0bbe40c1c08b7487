-- `known_calls`: the proved answers of the scope, §11.2, as a call gives them: answer, values and memory. Assumes nothing.
use mathlib.Core.Path.{◌≡◌, refl}
use mathlib.Core.List.{List, [], ◌∷◌}
use Prim.Native.Nat.{ℕ}
use Rattle.verdict.specs.Verdict.{Verdict}
use Rattle.verdict.specs.Verdict.Verdict.{Fine}
use Rattle.verdict.specs.Tests.{need, in_order, each}
use Rattle.verdict.proofs.Ordered.{order_fine}
use Rattle.pattern.specs.Tests.{size_test, table_test, set_test, shape_test, masks_test, pattern_test}
use Rattle.pattern.proofs.Validity.{set_fine, pattern_valid}
use Rattle.walk.specs.Walk.{Question, Outcome, Walk}
use Rattle.walk.specs.Meaning.{Proper}
use Rattle.walk.specs.Known.{Row, table, Known}
use Rattle.walk.specs.Known.Row.{asks, closes}
use Rattle.walk.specs.Known.Known.{done, row}
use Rattle.walk.proofs.KnownAnswers.{known_answers}
use Rattle.comparison.specs.Answers.Compared.{walks}
use Rattle.comparison.specs.Known.{Gives, KnownCalls}
use Rattle.comparison.specs.Known.KnownCalls.{none, answers, passes}
use Rattle.comparison.proofs.Asking.{compare_fine}
use Rattle.comparison.proofs.CompareDetermined.{compare_determined}

-- a question whose walk is known gives its outcome
gives : {Q : Question} {room : ℕ} {o : Outcome} → Proper Q → Walk Q room o → Gives Q room o
gives p w = record { all = λ lent r a later k. compare_determined k (walks ((compare_fine _).1 (p, r)) w) }

-- the tests of the questions of the table, each by computing
tests : Question → Verdict
tests Q = in_order (pattern_test Q.pattern ∷ set_test Q.pattern.states Q.left ∷ set_test Q.pattern.states Q.right ∷ [])

proper : (Q : Question) → tests Q ≡ Fine → Proper Q
unfolding tests
proper Q e =
    let (pattern, (left, (right, _))) = (order_fine _).0 e in
    record { valid = (pattern_valid Q.pattern).0 pattern; left_good = (set_fine _ _).0 left; right_good = (set_fine _ _).0 right }

abbrev Fines : List Row → Type 0
Fines [] = Unit {0}
Fines (asks Q room o ∷ rows) = (tests Q ≡ Fine) × Fines rows
Fines (closes pairs set closed ∷ rows) = Fines rows

called : (rows : List Row) → Fines rows → Known rows → KnownCalls rows
called [] f done = none
called (asks Q room o ∷ rows) (e, f) (row w k) = answers (gives (proper Q e) w) (called rows f k)
called (closes pairs set closed ∷ rows) f (row w k) = passes (called rows f k)

fines : Fines table
unfolding tests pattern_test shape_test size_test table_test masks_test set_test need in_order each
fines = (refl, (refl, (refl, (refl, (refl, (refl, (refl, (refl, (refl, tt)))))))))

pub known_calls : KnownCalls table
known_calls = called table fines known_answers
