-- A test of each value of a list, of whatever type: the values that are left decide. Assumes nothing.
use mathlib.Core.Path.{◌≡◌, refl, ◌∙◌}
use Prim.Native.Nat.{ℕ, ◌+◌, ◌≤◌, ◌<◌}
use native.Mathlib.Numerals.{add-one}
use lib.ListN.{length, get_or, drop, drop_of_length-le}
use lib.Seq.{drop-cons}
use mathlib.Core.List.{List, [], ◌∷◌, map}
use Rattle.std.specs.Prelude.{Result, Ok, Err}
use Rattle.verdict.specs.declared.Refusal.{Refusal}
use Rattle.verdict.specs.Verdict.{Verdict}
use Rattle.verdict.specs.Verdict.Verdict.{Fine, Against}
use Rattle.verdict.specs.Tests.{in_order}
use Rattle.verdict.specs.Refusals.{number, said, TestsEach}

-- nothing is against the values before those that are left: these decide
pub record Rest {A : Type 0} (Tells : A → Result (Unit {0}) Refusal → Type 0) (values left : List A) : Type 0 where
  pub decides : (test : A → Verdict) → ((v : A) (r : Result (Unit {0}) Refusal) → Tells v r → said r ≡ test v) → in_order (map test values) ≡ in_order (map test left)

module _ {A : Type 0} {Tells : A → Result (Unit {0}) Refusal → Type 0} {values : List A} where
  pub rest_first : Rest Tells values values
  rest_first = record { decides = λ test t. refl }

  pub rest_next : {v : A} {left : List A} {u : Unit {0}} → Rest Tells values (v ∷ left) → Tells v (Ok u) → Rest Tells values left
  unfolding in_order
  rest_next {v} {left} {u} r h = record { decides = λ test t. let e : Fine ≡ test v = t v (Ok u) h in r.decides test t ∙ rw (← e) refl }

  pub rest_stop : {v : A} {left : List A} {why : Refusal} → Rest Tells values (v ∷ left) → Tells v (Err why) → TestsEach Tells values (Err why)
  unfolding in_order
  rest_stop {v} {left} {why} r h = record { each = λ test t. let e : Against (number why) ≡ test v = t v (Err why) h in rw (r.decides test t, ← e) refl }

  pub rest_none : {u : Unit {0}} → Rest Tells values [] → TestsEach Tells values (Ok u)
  unfolding in_order
  rest_none r = record { each = λ test t. rw (r.decides test t) refl }

  -- the value that a loop comes to stands in front of those that are left after it
  pub rest_here : {v : A} {i : ℕ} → v ≡ get_or values i v → i < length values → Rest Tells values (drop i values) → Rest Tells values (v ∷ drop (i + 1) values)
  rest_here {v} {i} e l r =
      let d : drop i values ≡ v ∷ drop (i + 1) values = drop-cons values i v l ∙ rw (← e, add-one) refl in
      record { decides = λ test t. r.decides test t ∙ rw d refl }

  pub rest_end : {i : ℕ} → length values ≤ i → Rest Tells values (drop i values) → Rest Tells values []
  rest_end {i} l r = record { decides = λ test t. r.decides test t ∙ rw (drop_of_length-le values l) refl }
