-- The first pass over a file: each way out of it is what reading the pattern's numbers gives.
use Prim.Native.Nat.{ℕ, ◌*◌}
use mathlib.Core.Bool.{true, false}
use mathlib.Core.List.{List, [], ◌∷◌, ◌++◌, append_assoc}
use mathlib.Core.Path.{◌≡◌, sym, ap, ◌∙◌}
use lib.Dec.{leb}
use Rattle.std.specs.Prelude.{Ok}
use Rattle.verdict.proofs.Ordered.{need_holds, need_fails}
use Rattle.pattern.specs.Pattern.{Sized}
use Rattle.pattern.specs.Tests.{size_test, set_test, space_test}
use Rattle.pattern.proofs.Validity.{sized_fine}
use Rattle.numbers.specs.Numbers.{number_at}
use Rattle.numbers.specs.Numbers.Number.{Value}
use Rattle.numbers.specs.Format.{ended, item, many, got, refused, held_to, reading}
use Rattle.numbers.proofs.Formats.{held}
use Rattle.numbers.proofs.Parts.{many_length}
use Rattle.numbers.proofs.Steps.{Reached, reached_first, reached_item, reached_gate, reached_many, reached_end, stopped_gate, stopped_many}
use Rattle.patternfile.specs.declared.PatternPart.{PatternPart}
use Rattle.patternfile.specs.PatternFile.{starts_then, sets_then, after_letters, pattern_then, pattern_format}
use Rattle.patternfile.specs.Parts.{Judges}

module _ (room : ℕ) (s : List ℕ) where
  pub to_states : Reached (pattern_format room) s 0 [] (item (size_test 64) (λ n. item (size_test 32) (λ k. after_letters room n k ended))) 0
  unfolding pattern_format pattern_then
  to_states = reached_first (pattern_format room) s 0

  module _ {n k at₁ at₂ : ℕ} (a : Value n at₁ ≡ held_to (size_test 64) 0 (number_at s 0)) (b : Value k at₂ ≡ held_to (size_test 32) at₁ (number_at s at₁)) where
    pub sizes_fine : Sized n k
    sizes_fine = sized_fine (held (size_test 64) 0 (number_at s 0) (sym a)).range (held (size_test 32) at₁ (number_at s at₁) (sym b)).range

    to_room : Reached (pattern_format room) s 0 (n ∷ k ∷ []) (after_letters room n k ended) at₂
    to_room = reached_item (reached_item to_states a) b

    pub stop_room : leb (n * k) room ≡ false → reading (pattern_format room) s 0 ≡ refused 14 at₂
    unfolding space_test
    stop_room h = stopped_gate to_room (need_fails _ 14 h)

    pub to_finals : leb (n * k) room ≡ true → Reached (pattern_format room) s 0 (n ∷ k ∷ []) (sets_then n k ended) at₂
    unfolding space_test
    to_finals h = reached_gate to_room (need_holds _ 14 h)

  module _ {us : List ℕ} (n k : ℕ) {at : ℕ} (g : Reached (pattern_format room) s 0 us (many (n * k) (set_test n) (starts_then n ended)) at) where
    pub stop_rows : {w p : ℕ} → reading (many (n * k) (set_test n) ended) s at ≡ refused w p → reading (pattern_format room) s 0 ≡ refused w p
    stop_rows q = stopped_many (n * k) (set_test n) (starts_then n ended) g q

    pub to_x : {rows : List ℕ} {at_x : ℕ} → reading (many (n * k) (set_test n) ended) s at ≡ got rows at_x → Reached (pattern_format room) s 0 (us ++ rows) (starts_then n ended) at_x
    to_x q = reached_many (n * k) (set_test n) (starts_then n ended) g q

  pub all_read : (part : PatternPart) (rows : List ℕ) (at : ℕ) {at_x : ℕ} → reading (many (part.numbers.states * part.numbers.letters) (set_test part.numbers.states) ended) s at ≡ got rows at_x
      → Reached (pattern_format room) s 0 (part.numbers.states ∷ part.numbers.letters ∷ part.numbers.finals ∷ ((rows ++ (part.numbers.x ∷ [])) ++ (part.numbers.y ∷ []))) ended part.end
      → Judges s room (Ok part)
  all_read part rows at {at_x} q g =
      let f = part.numbers in (
        rows,
        record {
          tabled = many_length (f.states * f.letters) (set_test f.states) s at rows at_x q;
          read = reached_end g ∙ ap (λ (l : List ℕ). got (f.states ∷ f.letters ∷ f.finals ∷ l) part.end) (append_assoc rows (f.x ∷ []) (f.y ∷ []));
        },
      )
