-- Demand 2 (the scope, §13.3), of the call: a call that is not refused gets 0, 1 or 2, each answer means what it says, and a refusal changes nothing. Assumes nothing.
use Rattle.std.specs.Prelude.{Err}
use mathlib.Core.Path.{◌≡◌, refl, sym, ap, ◌∙◌}
use mathlib.Core.List.{List, [], ◌∷◌}
use Prim.Native.Nat.{ℕ, ◌≤◌}
use native.Mathlib.Omega.{arith}
use lib.ListN.{length}
use Rattle.verdict.specs.Refusals.{number}
use Rattle.verdict.specs.declared.Refusal.{Refusal}
use Rattle.verdict.specs.Verdict.{Verdict}
use Rattle.verdict.specs.Verdict.Verdict.{Fine, Against}
use Rattle.verdict.specs.Lines.{Applies}
use Rattle.verdict.proofs.Ordered.{apart, one_number}
use Rattle.verdict.proofs.Refusals.{has_name}
use Rattle.lent.proofs.Laying.{take_lay}
use Rattle.walk.specs.Walk.{Record, Outcome, kept_of, word_of, Walk}
use Rattle.walk.specs.Walk.Outcome.{Same, Different, Full}
use Rattle.walk.specs.Meaning.{Outgrows}
use Rattle.walk.proofs.WalkUnique.{walk_unique}
use Rattle.walk.proofs.WalkEnds.{walk_ends}
use Rattle.walk.proofs.SameMeansSame.{same_means_same}
use Rattle.walk.proofs.DifferentMeansDifferent.{different_means_different}
use Rattle.walk.proofs.Counts.{counts}
use Rattle.walk.proofs.FullExactly.{full_exactly}
use Rattle.comparison.specs.Answers.{Answered, number_of, Lent, Call, compare_test, answer_of, lay_out, Compared}
use Rattle.comparison.specs.Answers.Compared.{refuses, walks}
use Rattle.comparison.specs.Meaning.{IsRefused, Comparable, compare_lines, Honest, Quiet}
use Rattle.comparison.proofs.Asking.{compare_fine, compare_lines_lem, compare_among, refusal_number}

low : (o : Outcome) → number_of (answer_of o) ≤ 2
low (Same kept e) = omega arith
low (Different kept e w) = omega arith
low (Full kept e) = omega arith

not_refused : (o : Outcome) → IsRefused (answer_of o) → ⊥
not_refused (Same kept e) r = r
not_refused (Different kept e w) r = r
not_refused (Full kept e) r = r

-- a call that is not refused gets 0, 1 or 2
pub compare_valid : {c : Call} {a : Answered} {later : Lent} → Comparable c → Compared c a later → number_of a ≤ 2
compare_valid {c} p (refuses e) = apart ((compare_fine c).1 p) e
compare_valid {c} p (walks {o} f w) = low o

-- ---- an answer that is no refusal

module _ (c : Call) (fine : compare_test c ≡ Fine) where
  asked : Comparable c
  asked = (compare_fine c).0 fine

  no_line : (number : ℕ) → Applies (compare_lines c) number → ⊥
  no_line number p = apart fine (((compare_lines_lem c).against number).1 p)

  -- an outcome other than FULL is the only one in its room
  not_full : (o : Outcome) → Walk c.question c.room o → ((kept : List Record) (e : ℕ) → o ≡ Full kept e → ⊥) → Outgrows c.question c.room → ⊥
  not_full o w f g = let (kept, e, v) = (full_exactly asked.0 c.room).1 g in f kept e (walk_unique w v)

  honest : (o : Outcome) → Walk c.question c.room o → Honest c (answer_of o) (lay_out (kept_of o) (word_of o) c.lent)
  honest (Same kept e) w =
      let n = counts asked.0.valid.sized w in
      record {
        same = λ z. same_means_same asked.0.valid.sized w;
        all_examined = λ z. n.by_answer;
        different = λ z. absurd (omega arith);
        full = (
          λ z. absurd (omega arith),
          λ (p, g). absurd (not_full (Same kept e) w (λ k d z. absurd (let y : ◌≡◌ {A = ℕ} 0 2 = ap (λ (o : Outcome). number_of (answer_of o)) z in omega arith)) g),
        );
        room_kept = λ z. absurd (omega arith);
        refused = (λ r. absurd r, λ f. f asked);
        refused_by = λ number. (λ (r, z). absurd r, λ p. absurd (no_line number p));
        high = λ r. absurd r;
        kept_fits = n.fits;
        examined_fits = n.bounded;
        length_fits = omega arith;
      }
  honest (Different kept e u) w =
      let n = counts asked.0.valid.sized w in
      record {
        same = λ z. absurd (omega arith);
        all_examined = λ z. absurd (omega arith);
        different = λ z. rw (take_lay u c.lent.sequence (length u) refl) (different_means_different asked.0.valid.sized w);
        full = (
          λ z. absurd (omega arith),
          λ (p, g). absurd (not_full (Different kept e u) w (λ k d z. absurd (let y : ◌≡◌ {A = ℕ} 1 2 = ap (λ (o : Outcome). number_of (answer_of o)) z in omega arith)) g),
        );
        room_kept = λ z. absurd (omega arith);
        refused = (λ r. absurd r, λ f. f asked);
        refused_by = λ number. (λ (r, z). absurd r, λ p. absurd (no_line number p));
        high = λ r. absurd r;
        kept_fits = n.fits;
        examined_fits = n.bounded;
        length_fits = n.by_answer;
      }
  honest (Full kept e) w =
      let n = counts asked.0.valid.sized w in
      record {
        same = λ z. absurd (omega arith);
        all_examined = λ z. absurd (omega arith);
        different = λ z. absurd (omega arith);
        full = (λ z. (asked, (full_exactly asked.0 c.room).0 (kept, e, w)), λ g. refl);
        room_kept = λ z. n.by_answer;
        refused = (λ r. absurd r, λ f. f asked);
        refused_by = λ number. (λ (r, z). absurd r, λ p. absurd (no_line number p));
        high = λ r. absurd r;
        kept_fits = n.fits;
        examined_fits = n.bounded;
        length_fits = omega arith;
      }

-- ---- a refusal

refused_honest : (c : Call) {why : Refusal} → compare_test c ≡ Against (number why) → Honest c (Err why) c.lent
refused_honest c e =
    let least = refusal_number c e in
    record {
      same = λ z. absurd (omega arith);
      all_examined = λ z. absurd (omega arith);
      different = λ z. absurd (omega arith);
      full = (λ z. absurd (omega arith), λ (p, g). apart ((compare_fine c).1 p) e);
      room_kept = λ z. absurd (omega arith);
      refused = (λ r p. apart ((compare_fine c).1 p) e, λ f. tt);
      refused_by = λ w. (λ (r, z). ((compare_lines_lem c).against w).0 (e ∙ ap Against z), λ p. (tt, one_number e (((compare_lines_lem c).against w).1 p)));
      high = λ r. least;
      kept_fits = omega arith;
      examined_fits = omega arith;
      length_fits = omega arith;
    }

-- every answer means what it says
pub compare_honest : {c : Call} {a : Answered} {later : Lent} → Compared c a later → Honest c a later
compare_honest {c} (refuses e) = refused_honest c e
compare_honest {c} (walks {o} f w) = honest c f o w

-- the line of a refusal applies, and nothing is changed
pub compare_quiet : {c : Call} {a : Answered} {later : Lent} → Compared c a later → IsRefused a → Quiet c a later
compare_quiet {c} (refuses e) r = record { reason = e; kept = refl; examined = refl; length = refl; unchanged = refl }
compare_quiet {c} (walks {o} f w) r = absurd (not_refused o r)

-- an answer that is no refusal is one to a call that is not refused
pub compare_answered : {c : Call} {a : Answered} {later : Lent} → Compared c a later → (IsRefused a → ⊥) → Comparable c
compare_answered (refuses e) f = absurd (f tt)
compare_answered {c} (walks g w) f = (compare_fine c).0 g

-- every call has a result
pub compare_answers : (c : Call) → (a : Answered) × (later : Lent) × Compared c a later
compare_answers c = pick (compare_test c) refl
  where
    walked : Comparable c → compare_test c ≡ Fine → (a : Answered) × (later : Lent) × Compared c a later
    walked p e = let (o, w) = walk_ends c.question p.0 c.room in (answer_of o, lay_out (kept_of o) (word_of o) c.lent, walks e w)

    pick : (v : Verdict) → compare_test c ≡ v → (a : Answered) × (later : Lent) × Compared c a later
    pick Fine e = walked ((compare_fine c).0 e) e
    pick (Against w) e = let (why, z) = has_name (10 ∷ 11 ∷ 13 ∷ 12 ∷ []) refl ((compare_among c).among w e) in (Err why, c.lent, refuses (e ∙ ap Against (sym z)))
