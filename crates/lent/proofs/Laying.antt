-- Values laid over a list: what is found then, what is as it was, and one value more. Assumes nothing.
use mathlib.Core.Path.{◌≡◌, refl, sym, ap, ◌∙◌}
use mathlib.Core.List.{List, [], ◌∷◌, ◌++◌, append_assoc}
use Prim.Native.Nat.{ℕ, suc, ◌+◌, ◌≤◌, ◌<◌}
use native.Mathlib.Numerals.{add-one}
use native.Mathlib.Omega.{arith}
use lib.ListN.{length, get_or, take, drop, set, length-append, length-drop, get_or-append}
use lib.Seq.{set_at, drop-cons, take-append-le, take_at, drop_at, drop-drop}
use Rattle.lent.specs.Lent.{lay, lay_at}

module _ {A : Type 0} where
  pub lay_none : (old : List A) → lay [] old ≡ old
  unfolding lay
  lay_none old = refl

  -- what is laid over a list leaves its length
  pub length_lay : (values old : List A) → length values ≤ length old → length (lay values old) ≡ length old
  unfolding lay
  length_lay values old l = simp (length-append, length-drop) (omega arith)

  -- the first places hold the values
  pub take_lay : (values old : List A) (n : ℕ) → length values ≡ n → take n (lay values old) ≡ values
  unfolding lay
  take_lay values old n e = take_at values _ n e

  pub take_lay_less : (values old : List A) (n : ℕ) → n ≤ length values → take n (lay values old) ≡ take n values
  unfolding lay
  take_lay_less values old n h = take-append-le n values _ h

  pub get_d_lay : (values old : List A) (d : A) (i : ℕ) → i < length values → get_or (lay values old) i d ≡ get_or values i d
  unfolding lay
  get_d_lay values old d i h = get_or-append values _ d i h

  -- the rest is as it was
  pub drop_lay : (values old : List A) (n : ℕ) → length values ≡ n → drop n (lay values old) ≡ drop n old
  unfolding lay
  drop_lay values old n e = drop_at values _ n e ∙ ap (λ (m : ℕ). drop m old) e

  -- one more value is laid by a store at the next place
  pub lay_more : (values old : List A) (n : ℕ) (v d : A) → length values ≡ n → n < length old → set (lay values old) n v ≡ lay (values ++ (v ∷ [])) old
  unfolding lay
  lay_more values old n v d e l =
      let next : length (values ++ (v ∷ [])) ≡ suc n = length-append values (v ∷ []) ∙ ap (λ (m : ℕ). m + 1) e ∙ add-one n in
      rw (e, next, drop-cons old n d l) (set_at values (get_or old n d) (drop (suc n) old) v n e ∙ sym (append_assoc values (v ∷ []) (drop (suc n) old)))

  -- ---- from a place on

  pub lay_at_start : (values old : List A) → lay_at 0 values old ≡ lay values old
  unfolding lay_at
  lay_at_start values old = refl

  -- what stands before the place, the values, and what stands after them
  pub lay_at_parts : (at : ℕ) (values old : List A) → lay_at at values old ≡ take at old ++ values ++ drop (at + length values) old
  unfolding lay_at lay
  lay_at_parts at values old =
      ap (λ (l : List A). take at old ++ (values ++ l)) (drop-drop (length values) at old) ∙ sym (append_assoc (take at old) values (drop (at + length values) old))
