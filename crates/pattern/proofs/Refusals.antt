-- What the tests of a pattern refuse: by which numbers, and exactly where. Assumes nothing.
use mathlib.Core.Path.{◌≡◌, refl}
use mathlib.Core.List.{List, [], ◌∷◌, Memᴰ}
use Prim.Native.Nat.{ℕ, ◌*◌, ◌≤◌}
use Rattle.verdict.specs.Tests.{each, Among}
use Rattle.verdict.specs.Lines.{GoesBy}
use Rattle.verdict.specs.Lines.Lines.{none, line}
use Rattle.verdict.proofs.Numbered.{AllAmong, among_need, among_order, among_each}
use Rattle.verdict.proofs.Numbered.AllAmong.{more}
use Rattle.verdict.proofs.Lines.{one_line, no_lines, lines_then, same_number}
use Rattle.sets.specs.Sets.{Good}
use Rattle.pattern.specs.Pattern.{Pattern, AllGood}
use Rattle.pattern.specs.Tests.{size_test, table_test, set_test, space_test, shape_test, masks_test, pattern_test}
use Rattle.pattern.specs.Refusals.{MasksGood, shape_lines, pattern_lines}
use Rattle.pattern.proofs.Validity.{size_fine, sized_exactly, table_fine, set_fine, sets_fine, space_fine, masks_fine}

-- ---- by which numbers: any list that has them

module _ (numbers : List ℕ) where
  pub among_size : Memᴰ 10 numbers → (most v : ℕ) → Among numbers (size_test most v)
  unfolding size_test
  among_size m most v = among_need numbers _ 10 m

  pub among_table : Memᴰ 11 numbers → (n k count : ℕ) → Among numbers (table_test n k count)
  unfolding table_test
  among_table m n k count = among_need numbers _ 11 m

  pub among_set : Memᴰ 12 numbers → (n mask : ℕ) → Among numbers (set_test n mask)
  unfolding set_test
  among_set m n mask = among_need numbers _ 12 m

  pub among_sets : Memᴰ 12 numbers → (n : ℕ) (masks : List ℕ) → Among numbers (each (set_test n) masks)
  among_sets m n masks = among_each numbers (set_test n) (among_set m n) masks

  pub among_space : Memᴰ 14 numbers → (places count : ℕ) → Among numbers (space_test places count)
  unfolding space_test
  among_space m places count = among_need numbers _ 14 m

  pub among_shape : Memᴰ 10 numbers → Memᴰ 11 numbers → (P : Pattern) → Among numbers (shape_test P)
  unfolding shape_test
  among_shape size table P = among_order numbers (more (among_size size 64 _) (more (among_size size 32 _) (more (among_table table _ _ _) AllAmong.none)))

  pub among_masks : Memᴰ 12 numbers → (P : Pattern) → Among numbers (masks_test P)
  unfolding masks_test
  among_masks m P = among_order numbers (more (among_set m _ _) (more (among_sets m _ _) AllAmong.none))

  pub among_pattern : Memᴰ 10 numbers → Memᴰ 11 numbers → Memᴰ 12 numbers → (P : Pattern) → Among numbers (pattern_test P)
  unfolding pattern_test
  among_pattern size table set P = among_order numbers (more (among_shape size table P) (more (among_masks set P) AllAmong.none))

-- ---- exactly where

pub set_line : (n mask : ℕ) → GoesBy (line 12 (Good n mask) none) (set_test n mask)
set_line n mask = one_line (among_set (12 ∷ []) (Memᴰ.head refl) n mask) (set_fine n mask)

pub sets_line : (n : ℕ) (masks : List ℕ) → GoesBy (line 12 (AllGood n masks) none) (each (set_test n) masks)
sets_line n masks = one_line (among_sets (12 ∷ []) (Memᴰ.head refl) n masks) (sets_fine n masks)

pub masks_line : (P : Pattern) → GoesBy (line 12 (MasksGood P) none) (masks_test P)
masks_line P = one_line (among_masks (12 ∷ []) (Memᴰ.head refl) P) (masks_fine P)

pub space_line : (places count : ℕ) → GoesBy (line 14 (count ≤ places) none) (space_test places count)
space_line places count = one_line (among_space (14 ∷ []) (Memᴰ.head refl) places count) (space_fine places count)

size_line : (most v : ℕ) → GoesBy (line 10 ((1 ≤ v) × (v ≤ most)) none) (size_test most v)
size_line most v = one_line (among_size (10 ∷ []) (Memᴰ.head refl) most v) (size_fine most v)

table_line : (n k count : ℕ) → GoesBy (line 11 (count ≡ n * k) none) (table_test n k count)
table_line n k count = one_line (among_table (11 ∷ []) (Memᴰ.head refl) n k count) (table_fine n k count)

pub shape_lines_lem : (P : Pattern) → GoesBy (shape_lines P none) (shape_test P)
unfolding shape_test
shape_lines_lem P = same_number none 10 _ sized_exactly (lines_then _ (size_line 64 _) (lines_then _ (size_line 32 _) (lines_then _ (table_line _ _ _) no_lines)))

pub pattern_lines_lem : (P : Pattern) → GoesBy (pattern_lines P none) (pattern_test P)
unfolding pattern_test
pattern_lines_lem P = lines_then _ (shape_lines_lem P) (lines_then _ (masks_line P) no_lines)
