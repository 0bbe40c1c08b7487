-- Demand 2 (the scope, §13.3), of the one-way question: a call that is not refused gets 8, 9 or 2, each answer means what it says, and a refusal
-- changes nothing. Assumes nothing.
use mathlib.Core.Path.{◌≡◌, refl, sym, ◌∙◌}
use mathlib.Core.Logic.{◌⊎◌, inl, inr}
use Prim.Native.Nat.{ℕ, zero, suc, ◌≤◌}
use native.Mathlib.Omega.{arith}
use Rattle.pattern.proofs.Inclusion.{union_within}
use Rattle.walk.proofs.Inclusion.{tells_escapes}
use Rattle.comparison.specs.Answers as Comparison
use Rattle.comparison.specs.Answers.{Answered, Lent, Call, Compared}
use Rattle.comparison.specs.Meaning.{Comparable}
use Rattle.comparison.specs.Inclusion.{AnsweredOneWay, number_of, answered_one_way, Included}
use Rattle.comparison.specs.Inclusion.Included.{refuses, walks}
use Rattle.comparison.specs.InclusionMeaning.{IsRefused, HonestInclusion, QuietInclusion}
use Rattle.comparison.proofs.Asking.{compare_fine}
use Rattle.comparison.proofs.CompareHonest.{compare_valid, compare_honest, compare_answers}
use Rattle.comparison.proofs.Joining.{joined_call, comparable_joined, lines_joined, included_compared, compared_included, values_joined, refused_joined, number_refused, within_joined, not_within_joined, full_joined}

-- by what the comparison of X+Y with Y answers
module _ {c : Call} (b : Answered) {later : Lent} (k : Compared (joined_call c) b later) where
  honest : HonestInclusion c (answered_one_way b) later
  honest =
      let h = compare_honest k in
      let is = refused_joined b in
      let asked = comparable_joined c in
      let values = values_joined b in
      record {
        within = λ z. union_within.0 (h.same ((within_joined b h.high).0 z));
        all_examined = λ z. rw values (h.all_examined ((within_joined b h.high).0 z));
        not_within = λ z. rw values (tells_escapes (h.different ((not_within_joined b h.high).0 z)));
        full = (
          λ z. let (p, g) = h.full.0 ((full_joined b h.high).0 z) in (asked.1 p, g),
          λ (p, g). (full_joined b h.high).1 (h.full.1 (asked.0 p, g)),
        );
        room_kept = λ z. rw values (h.room_kept ((full_joined b h.high).0 z));
        refused = (λ i p. h.refused.0 (is.0 i) (asked.0 p), λ f. is.1 (h.refused.1 (λ p. f (asked.1 p))));
        refused_by = λ w. (
          λ (i, z). (lines_joined c w).0 ((h.refused_by w).0 (is.0 i, sym (number_refused b (is.0 i)) ∙ z)),
          λ p. let (i, z) = (h.refused_by w).1 ((lines_joined c w).1 p) in (is.1 i, number_refused b i ∙ z),
        );
        high = λ i. rw (number_refused b (is.0 i)) (h.high (is.0 i));
        kept_fits = rw values h.kept_fits;
        examined_fits = rw values h.examined_fits;
        length_fits = rw values h.length_fits;
      }

-- every answer means what it says
pub within_honest : {c : Call} {a : AnsweredOneWay} {later : Lent} → Included c a later → HonestInclusion c a later
within_honest k = let (b, p, e) = included_compared k in rw e (honest b p)

-- a call that is not refused gets 8, 9 or 2
pub within_valid : {c : Call} {a : AnsweredOneWay} {later : Lent} → Comparable c → Included c a later → (number_of a ≡ 8) ⊎ (number_of a ≡ 9) ⊎ (number_of a ≡ 2)
within_valid {c} {later = later} p k =
    let (b, q, e) = included_compared k in
    rw e (pick b q (Comparison.number_of b) refl (compare_valid ((comparable_joined c).0 p) q))
  where
    pick : (b : Answered) → Compared (joined_call c) b later → (n : ℕ) → Comparison.number_of b ≡ n → n ≤ 2
        → (number_of (answered_one_way b) ≡ 8) ⊎ (number_of (answered_one_way b) ≡ 9) ⊎ (number_of (answered_one_way b) ≡ 2)
    pick b q zero z l = inl ((within_joined b (compare_honest q).high).1 z)
    pick b q (suc zero) z l = inr (inl ((not_within_joined b (compare_honest q).high).1 z))
    pick b q (suc (suc zero)) z l = inr (inr ((full_joined b (compare_honest q).high).1 z))
    pick b q (suc (suc (suc n))) z l = absurd (omega (arith, l))

-- the line of a refusal applies, and nothing is changed
pub within_quiet : {c : Call} {a : AnsweredOneWay} {later : Lent} → Included c a later → IsRefused a → QuietInclusion c a later
within_quiet (refuses e) i = record { reason = e; kept = refl; examined = refl; length = refl; unchanged = refl }
within_quiet {c} (walks {o} f w) i = absurd ((within_honest (walks {o = o} f w)).refused.0 i ((compare_fine c).0 f))

-- every call has a result
pub within_answers : (c : Call) → (a : AnsweredOneWay) × (later : Lent) × Included c a later
within_answers c = let (b, later, k) = compare_answers (joined_call c) in (answered_one_way b, later, compared_included k)
