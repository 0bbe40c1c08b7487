-- The tests of a comparison: a call is refused exactly where a line applies, by the first, and only by 10, 11, 13, 12.
-- Assumes nothing.
use mathlib.Core.Path.{◌≡◌, refl, ◌∙◌}
use mathlib.Core.Logic.{◌↔◌}
use mathlib.Core.List.{List, [], ◌∷◌, map, Memᴰ}
use Prim.Native.Nat.{ℕ, ◌≤◌}
use lib.ListN.{length}
use lib.Dec.{leb}
use borrow.Author.Tests.{leb-true, le-leb}
use Rattle.verdict.specs.Verdict.{Verdict}
use Rattle.verdict.specs.Verdict.Verdict.{Fine, Against}
use Rattle.verdict.specs.Tests.{need, in_order, each, Among}
use Rattle.verdict.specs.Lines.{NoneApplies, GoesBy}
use Rattle.verdict.specs.Lines.Lines.{none, line}
use Rattle.verdict.proofs.Ordered.{need_holds, need_fine, order_fine, order_next}
use Rattle.verdict.proofs.Numbered.{among_need, among_each, among_from}
use Rattle.verdict.proofs.Lines.{one_line, no_lines, lines_then, same_number, lines_among}
use Rattle.sets.specs.Rooms.{max_room}
use Rattle.pattern.specs.Tests.{set_test}
use Rattle.pattern.specs.Refusals.{shape_lines}
use Rattle.pattern.proofs.Refusals.{set_line, masks_line, shape_lines_lem}
use Rattle.walk.specs.Walk.{Question}
use Rattle.walk.specs.Columns.{lengths}
use Rattle.walk.proofs.Columns.{fit_at, fit_by, in_lengths, of_lengths}
use Rattle.comparison.specs.Answers.{Lent, Call, room_test, compare_test}
use Rattle.comparison.specs.Meaning.{Roomy, Comparable, SidesGood, compare_lines}

-- ---- the room

-- a test of each value has nothing against it exactly where it has nothing against any of them
each_in : (test : ℕ → Verdict) {v : ℕ} {values : List ℕ} → each test values ≡ Fine → Memᴰ v values → test v ≡ Fine
unfolding each
each_in test e (Memᴰ.head z) = rw z ((order_fine _).0 e).0
each_in test {values = v ∷ values} e (Memᴰ.tail m) = each_in test ((order_fine (map test values)).1 ((order_fine _).0 e).1) m

each_all : (test : ℕ → Verdict) (values : List ℕ) → ((v : ℕ) → Memᴰ v values → test v ≡ Fine) → each test values ≡ Fine
unfolding each in_order
each_all test [] f = refl
each_all test (v ∷ values) f = order_next (test v) (map test values) (f v (Memᴰ.head refl)) ∙ each_all test values (λ u m. f u (Memᴰ.tail m))

bound_fine : (room most : ℕ) → (need (leb room most) 13 ≡ Fine) ↔ (room ≤ most)
bound_fine room most = (λ e. leb-true _ _ (need_fine _ 13 e), λ h. need_holds _ 13 (le-leb _ _ h))

pub room_fine : (room : ℕ) (lent : Lent) → (room_test room lent ≡ Fine) ↔ Roomy room lent
unfolding room_test
room_fine room lent = (to, fro)
  where
    bounds : List ℕ
    bounds = max_room ∷ length lent.sequence ∷ lengths lent.columns

    holds : {most : ℕ} → room_test room lent ≡ Fine → Memᴰ most bounds → room ≤ most
    holds e m = (bound_fine room _).0 (each_in _ e m)

    to : room_test room lent ≡ Fine → Roomy room lent
    to e =
        record {
          most = holds e (Memᴰ.head refl);
          columns_fit = fit_by (λ x. holds e (Memᴰ.tail (Memᴰ.tail (in_lengths lent.columns x))));
          sequence_fits = holds e (Memᴰ.tail (Memᴰ.head refl));
        }

    within : Roomy room lent → {most : ℕ} → Memᴰ most bounds → room ≤ most
    within r (Memᴰ.head e) = rw e r.most
    within r (Memᴰ.tail (Memᴰ.head e)) = rw e r.sequence_fits
    within r (Memᴰ.tail (Memᴰ.tail m)) = let (x, e) = of_lengths lent.columns m in rw e (fit_at r.columns_fit x)

    fro : Roomy room lent → room_test room lent ≡ Fine
    fro r = each_all _ _ (λ most m. (bound_fine room most).1 (within r m))

-- ---- exactly where a line applies

room_line : (room : ℕ) (lent : Lent) → GoesBy (line 13 (Roomy room lent) none) (room_test room lent)
unfolding room_test
room_line room lent = one_line among (room_fine room lent)
  where
    among : Among (13 ∷ []) (room_test room lent)
    among = among_each (13 ∷ []) _ (λ most. among_need (13 ∷ []) _ 13 (Memᴰ.head refl)) _

sides_line : (Q : Question) → GoesBy (line 12 (SidesGood Q) none) (in_order (set_test Q.pattern.states Q.left ∷ set_test Q.pattern.states Q.right ∷ []))
sides_line Q = same_number none 12 none (λ p. p, λ p. p) (lines_then _ (set_line _ _) (lines_then _ (set_line _ _) no_lines))

module _ (c : Call) where
  -- a call is refused exactly where a line applies, by the first
  pub compare_lines_lem : GoesBy (compare_lines c) (compare_test c)
  unfolding compare_test
  compare_lines_lem =
      same_number (shape_lines c.question.pattern (line 13 (Roomy c.room c.lent) none)) 12 none (λ p. p, λ p. p)
      (lines_then _ (shape_lines_lem _) (lines_then _ (room_line _ _) (lines_then _ (masks_line _) (sides_line c.question))))

  pub compare_among : Among (10 ∷ 11 ∷ 13 ∷ 12 ∷ []) (compare_test c)
  compare_among = lines_among compare_lines_lem

  pub refusal_number : {number : ℕ} → compare_test c ≡ Against number → 10 ≤ number
  refusal_number e = among_from 10 refl compare_among e

  -- and not where the question is valid and the room is there
  pub compare_fine : (compare_test c ≡ Fine) ↔ Comparable c
  compare_fine = (λ e. to (compare_lines_lem.fine.0 e), λ p. compare_lines_lem.fine.1 (fro p))
    where
      to : NoneApplies (compare_lines c) → Comparable c
      to (sized, (tabled, (roomy, (((finals, rows), (left, right)), _)))) = (
        record { valid = record { sized = sized; tabled = tabled; finals_good = finals; rows_good = rows }; left_good = left; right_good = right },
        roomy,
      )

      fro : Comparable c → NoneApplies (compare_lines c)
      fro (p, roomy) =
          let v = p.valid in
          (v.sized, (v.tabled, (roomy, (((v.finals_good, v.rows_good), (p.left_good, p.right_good)), tt))))
