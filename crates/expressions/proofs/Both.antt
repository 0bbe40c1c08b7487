-- Two texts put together: the tables are blank at first, and the pattern that is built is the two automata side by side.
use mathlib.Core.Path.{◌≡◌, refl, ap, ap₂, ◌∙◌, subst}
use mathlib.Core.Bool.{Bool}
use mathlib.Core.List.{List}
use Prim.Native.Nat.{ℕ, zero, suc, ◌+◌, ◌*◌, ◌^◌, ◌≤◌, ◌<◌}
use native.Mathlib.Omega.{arith}
use lib.ListN.{length, get_or, replicate}
use lib.Bits.{bit_or, or_zero_l}
use Rattle.expressions.specs.Positions.{when, first, last, linked, follow, named, finals_of, second, states}
use Rattle.expressions.specs.Pieces.{Linked}
use Rattle.expressions.specs.Both.{Whole, finals_from, Filled}
use Rattle.expressions.specs.Answers.{Built}
use Rattle.expressions.specs.declared.Piece.{Piece}
use Rattle.expressions.specs.declared.Tables.{Tables}
use Rattle.expressions.proofs.Rows.{next_both, named_both, filled_together}
use Rattle.expressions.proofs.Refusals.{fine, at_second, after_second, second_fine}

zeros : (n s : ℕ) → ◌≡◌ {A = ℕ} (get_or {A = ℕ} (replicate n 0) s 0) 0
zeros zero s = refl
zeros (suc n) zero = refl
zeros (suc n) (suc s) = zeros n s

-- tables that nothing has been put into
pub record Blank (t : Tables) : Type 0 where
  pub follow : (s : ℕ) → get_or t.follow s 0 ≡ 0
  pub named : (a : ℕ) → get_or t.named a 0 ≡ 0

pub blank : Blank (record { follow = replicate 64 0; named = replicate 32 0 })
blank = record { follow = zeros 64; named = zeros 32 }

module _ {one two : List ℕ} {t₀ t₁ t₂ t₃ t₄ : Tables} (x y : Piece) {start : ℕ} (b : start ≡ 2 ^ x.used)
    (k : Blank t₀) (w : Whole one 1 t₀ t₁ x) (v : Whole two (x.used + 1) t₁ t₂ y) (l : Linked 1 x.first t₂ t₃) (m : Linked start y.first t₃ t₄) where
  start_is : start ≡ 2 ^ second w.tree
  start_is = b ∙ ap (λ (z : ℕ). 2 ^ z) (at_second w)

  follows : (s : ℕ) → s < 64 → get_or t₄.follow s 0 ≡ next_both w.tree v.tree s
  unfolding next_both
  follows s h =
      m.entry s h
      ∙ ap₂ bit_or
      (l.entry s h
      ∙ ap₂ bit_or
      (v.follow_is s h
      ∙ ap₂ bit_or (w.follow_is s h ∙ ap (λ (z : ℕ). bit_or z (follow w.tree 1 s)) (k.follow s) ∙ or_zero_l _)
      (ap (λ (z : ℕ). follow v.tree z s) (after_second w)))
      (ap (linked 1 s) w.first_is))
      (ap₂ (λ (a c : ℕ). linked a s c) start_is (v.first_is ∙ ap (first v.tree) (after_second w)))

  names : (a : ℕ) → a < 32 → get_or t₄.named a 0 ≡ named_both w.tree v.tree a
  unfolding named_both
  names a h =
      ap (λ (z : List ℕ). get_or z a 0) (m.names ∙ l.names)
      ∙ v.named_is a h
      ∙ ap₂ bit_or (w.named_is a h ∙ ap (λ (z : ℕ). bit_or z (named w.tree 1 a)) (k.named a) ∙ or_zero_l _)
      (ap (λ (z : ℕ). named v.tree z a) (after_second w))

  finals_are : finals_from x y start ≡ bit_or (finals_of w.tree 0) (finals_of v.tree (second w.tree))
  unfolding finals_from finals_of
  finals_are =
      ap₂ bit_or (ap₂ bit_or w.last_is (ap (λ (z : Bool). when z 1) w.null_is))
      (ap₂ bit_or (v.last_is ∙ ap (last v.tree) (after_second w)) (ap₂ when v.null_is start_is))

  count : y.used ≡ states w.tree v.tree
  count = omega (arith, w.states, v.states)

  pub built : (rows rows' : List ℕ) (fin : ℕ) → fin ≡ finals_from x y start → Filled (y.used * 32) t₄ rows rows' → y.used * 32 ≤ length rows
      → Built one two rows rows' y.used fin 1 start
  built rows rows' fin g h t =
      record {
        left = w.tree;
        right = v.tree;
        one_is = fine w;
        two_is = second_fine w v;
        count = count;
        few = v.room;
        together =
            filled_together w.tree v.tree t₄ rows rows' fin (omega (arith, count, v.room))
            (subst (λ (z : ℕ). Filled (z * 32) t₄ rows rows') count h) follows names (g ∙ finals_are);
        first_start = refl;
        second_start = start_is;
        fits = t;
        long = h.long;
        rest = h.rest;
      }
