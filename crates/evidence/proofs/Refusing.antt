-- What the check refuses: exactly where a line applies, by the first, and only by 10, 11, 16, 12. Assumes nothing.
use mathlib.Core.Path.{◌≡◌, refl}
use mathlib.Core.List.{[], ◌∷◌, Memᴰ}
use Prim.Native.Nat.{ℕ, ◌≤◌}
use lib.ListN.{length}
use Rattle.verdict.specs.Tests.{Among}
use Rattle.verdict.specs.Lines.{GoesBy}
use Rattle.verdict.specs.Lines.Lines.{none, line}
use Rattle.verdict.proofs.Numbered.{AllAmong, among_need, among_order}
use Rattle.verdict.proofs.Numbered.AllAmong.{more}
use Rattle.verdict.proofs.Lines.{one_line, no_lines, lines_then, same_number, lines_among}
use Rattle.sets.specs.Rooms.{max_room}
use Rattle.pattern.specs.Refusals.{shape_lines}
use Rattle.pattern.proofs.Refusals.{among_set, among_sets, masks_line, shape_lines_lem}
use Rattle.evidence.specs.Evidence.{Offer, list_test, pairs_test, check_test}
use Rattle.evidence.specs.Meaning.{PairsGood, check_lines}
use Rattle.evidence.proofs.Validity.{list_fine, pairs_fine}

list_line : (lefts rights : ℕ) → GoesBy (line 16 ((lefts ≤ max_room) × (lefts ≡ rights)) none) (list_test lefts rights)
unfolding list_test
list_line lefts rights = one_line (among_need (16 ∷ []) _ 16 (Memᴰ.head refl)) (list_fine lefts rights)

pairs_line : (o : Offer) → GoesBy (line 12 (PairsGood o) none) (pairs_test o.pattern.states o.x o.y o.lefts o.rights)
unfolding pairs_test
pairs_line o = one_line among (pairs_fine _ _ _ _ _)
  where
    here : Memᴰ {A = ℕ} 12 (12 ∷ [])
    here = Memᴰ.head refl

    among : Among (12 ∷ []) (pairs_test o.pattern.states o.x o.y o.lefts o.rights)
    among = among_order _ (more (among_set _ here _ _) (more (among_set _ here _ _) (more (among_sets _ here _ _) (more (among_sets _ here _ _) AllAmong.none))))

module _ (o : Offer) where
  -- an offer is refused exactly where a line applies, by the first
  pub check_lines_lem : GoesBy (check_lines o) (check_test o)
  unfolding check_test
  check_lines_lem =
      same_number (shape_lines o.pattern (line 16 ((length o.lefts ≤ max_room) × (length o.lefts ≡ length o.rights)) none)) 12 _ (λ p. p, λ p. p)
      (lines_then _ (shape_lines_lem _) (lines_then _ (list_line _ _) (lines_then _ (masks_line _) (lines_then _ (pairs_line o) no_lines))))

  pub check_among : Among (10 ∷ 11 ∷ 16 ∷ 12 ∷ []) (check_test o)
  check_among = lines_among check_lines_lem
