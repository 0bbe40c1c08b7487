-- The one-way question of X and Y is the comparison of X+Y with Y: it is refused as that is, by the same numbers, and each of its results is one
-- of that. Assumes nothing.
use Rattle.std.specs.Prelude.{Ok, Err}
use mathlib.Core.Path.{◌≡◌, refl, sym, ◌∙◌}
use mathlib.Core.Logic.{◌↔◌}
use mathlib.Core.List.{List, ◌∷◌}
use Prim.Native.Nat.{ℕ, ◌≤◌}
use native.Mathlib.Omega.{arith}
use Rattle.verdict.specs.Verdict.{Verdict}
use Rattle.verdict.specs.Verdict.Verdict.{Fine, Against}
use Rattle.verdict.specs.Tests.{in_order}
use Rattle.verdict.specs.Lines.{Applies}
use Rattle.pattern.proofs.Unions.{union_tested}
use Rattle.walk.specs.Inclusion.{joined}
use Rattle.walk.proofs.Inclusion.{proper_joined}
use Rattle.comparison.specs.Answers as Comparison
use Rattle.comparison.specs.Answers.{Answered, Values, Lent, Call, compare_test, answer_of, Compared}
use Rattle.comparison.specs.Meaning as OfComparison
use Rattle.comparison.specs.Meaning.{Comparable, compare_lines}
use Rattle.comparison.specs.Inclusion.{AnsweredOneWay, number_of, values_of, answered_one_way, Included}
use Rattle.comparison.specs.Inclusion.Included.{refuses, walks}
use Rattle.comparison.specs.InclusionMeaning.{IsRefused}
use Rattle.comparison.specs.declared.Answer.{Answer}
use Rattle.comparison.proofs.Asking.{compare_lines_lem}

-- X+Y compared with Y, in the same room and with the same things lent
abbrev pub joined_call : Call → Call
joined_call c = record { question = joined c.question; room = c.room; lent = c.lent }

-- ---- the refusals

after : (v : Verdict) (tests tests' : List Verdict) → in_order tests ≡ in_order tests' → in_order (v ∷ tests) ≡ in_order (v ∷ tests')
unfolding in_order
after Fine tests tests' e = e
after (Against w) tests tests' e = refl

module _ (c : Call) where
  -- X+Y and Y are refused as X and Y are
  pub joined_test : compare_test (joined_call c) ≡ compare_test c
  unfolding compare_test
  joined_test = after _ _ _ (after _ _ _ (after _ _ _ (union_tested c.question.pattern.states c.question.left c.question.right)))

  pub comparable_joined : Comparable c ↔ Comparable (joined_call c)
  comparable_joined = (λ p. (proper_joined.0 p.0, p.1), λ p. (proper_joined.1 p.0, p.1))

  -- the same lines apply
  pub lines_joined : (number : ℕ) → Applies (compare_lines (joined_call c)) number ↔ Applies (compare_lines c) number
  lines_joined number = (
    λ p. ((compare_lines_lem c).against number).0 (sym joined_test ∙ ((compare_lines_lem (joined_call c)).against number).1 p),
    λ p. ((compare_lines_lem (joined_call c)).against number).0 (joined_test ∙ ((compare_lines_lem c).against number).1 p),
  )

-- ---- the results

pub included_compared : {c : Call} {a : AnsweredOneWay} {later : Lent} → Included c a later → (b : Answered) × Compared (joined_call c) b later × (a ≡ answered_one_way b)
included_compared {c} (refuses {why} e) = (Err why, Compared.refuses (joined_test c ∙ e), refl)
included_compared {c} (walks {o} f w) = (answer_of o, Compared.walks (joined_test c ∙ f) w, refl)

pub compared_included : {c : Call} {b : Answered} {later : Lent} → Compared (joined_call c) b later → Included c (answered_one_way b) later
compared_included {c} (Compared.refuses e) = refuses (sym (joined_test c) ∙ e)
compared_included {c} (Compared.walks f w) = walks (sym (joined_test c) ∙ f) w

-- ---- the answers

pub values_joined : (b : Answered) → values_of (answered_one_way b) ≡ Comparison.values_of b
values_joined (Ok (Answer.Same kept examined)) = refl
values_joined (Ok (Answer.Different kept examined length)) = refl
values_joined (Ok (Answer.Full kept examined)) = refl
values_joined (Err why) = refl

pub refused_joined : (b : Answered) → IsRefused (answered_one_way b) ↔ OfComparison.IsRefused b
refused_joined (Ok (Answer.Same kept examined)) = (λ i. i, λ i. i)
refused_joined (Ok (Answer.Different kept examined length)) = (λ i. i, λ i. i)
refused_joined (Ok (Answer.Full kept examined)) = (λ i. i, λ i. i)
refused_joined (Err why) = (λ i. i, λ i. i)

-- a refusal keeps its number
pub number_refused : (b : Answered) → OfComparison.IsRefused b → number_of (answered_one_way b) ≡ Comparison.number_of b
number_refused (Ok (Answer.Same kept examined)) i = absurd i
number_refused (Ok (Answer.Different kept examined length)) i = absurd i
number_refused (Ok (Answer.Full kept examined)) i = absurd i
number_refused (Err why) i = refl

-- WITHIN is SAME, NOT-WITHIN is DIFFERENT, and FULL is FULL
module _ (b : Answered) (high : OfComparison.IsRefused b → 10 ≤ Comparison.number_of b) where
  pub within_joined : (number_of (answered_one_way b) ≡ 8) ↔ (Comparison.number_of b ≡ 0)
  within_joined = by b high
    where
      by : (b : Answered) → (OfComparison.IsRefused b → 10 ≤ Comparison.number_of b) → (number_of (answered_one_way b) ≡ 8) ↔ (Comparison.number_of b ≡ 0)
      by (Ok (Answer.Same kept examined)) h = (λ z. refl, λ z. refl)
      by (Ok (Answer.Different kept examined length)) h = (λ z. omega arith, λ z. omega arith)
      by (Ok (Answer.Full kept examined)) h = (λ z. omega arith, λ z. omega arith)
      by (Err why) h = (λ z. omega (arith, h tt), λ z. omega (arith, h tt))

  pub not_within_joined : (number_of (answered_one_way b) ≡ 9) ↔ (Comparison.number_of b ≡ 1)
  not_within_joined = by b high
    where
      by : (b : Answered) → (OfComparison.IsRefused b → 10 ≤ Comparison.number_of b) → (number_of (answered_one_way b) ≡ 9) ↔ (Comparison.number_of b ≡ 1)
      by (Ok (Answer.Same kept examined)) h = (λ z. omega arith, λ z. omega arith)
      by (Ok (Answer.Different kept examined length)) h = (λ z. refl, λ z. refl)
      by (Ok (Answer.Full kept examined)) h = (λ z. omega arith, λ z. omega arith)
      by (Err why) h = (λ z. omega (arith, h tt), λ z. omega (arith, h tt))

  pub full_joined : (number_of (answered_one_way b) ≡ 2) ↔ (Comparison.number_of b ≡ 2)
  full_joined = by b
    where
      by : (b : Answered) → (number_of (answered_one_way b) ≡ 2) ↔ (Comparison.number_of b ≡ 2)
      by (Ok (Answer.Same kept examined)) = (λ z. omega arith, λ z. omega arith)
      by (Ok (Answer.Different kept examined length)) = (λ z. omega arith, λ z. omega arith)
      by (Ok (Answer.Full kept examined)) = (λ z. refl, λ z. refl)
      by (Err why) = (λ z. z, λ z. z)
