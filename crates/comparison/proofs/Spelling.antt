-- What the two loops of `spell` keep: the way up a path is counted, and then written from its end. Assumes nothing.
use mathlib.Core.Path.{◌≡◌, refl, sym, ap, ap₂, ◌∙◌}
use mathlib.Core.List.{List, [], ◌∷◌, ◌++◌, append_assoc, append-nil}
use Prim.Native.Nat.{ℕ, suc, ◌+◌, ◌-◌, ◌≤◌, ◌<◌}
use native.Mathlib.Numerals.{add-one}
use native.Mathlib.Omega.{arith}
use Rattle.std.proofs.Common.{min}
use lib.ListN.{length, get_or, take, drop, set, length-append, length-set, length-take, take-append-drop}
use lib.Seq.{get_or-take, take-suc, set_at, length-take-le, set_split, drop_at}
use Rattle.lent.specs.Lent.{lay}
use Rattle.walk.specs.Walk.{Path}
use Rattle.comparison.specs.Inner.{Spelt}
use Rattle.walk.proofs.Paths.{path_unique, further_of, ended_of}

-- ---- the first n of a list

pub short_of : (n : ℕ) {i : ℕ} (xs : List ℕ) → i < length (take n xs) → i < length xs
short_of n {i} xs l = let e : length (take n xs) ≡ min n (length xs) = length-take n xs in grind (arith, e)

pub shown_at : (n : ℕ) {i : ℕ} (xs : List ℕ) → i < length (take n xs) → get_or xs i 0 ≡ get_or (take n xs) i 0
shown_at n {i} xs l =
    let e : length (take n xs) ≡ min n (length xs) = length-take n xs in
    let b : i < n = grind (arith, e) in
    sym (get_or-take n xs i 0 b)

-- ---- the first loop: so many letters are passed, and i is where we stand

pub record Climbing (parents letters : List ℕ) (from count i : ℕ) : Type 0 where
  pub word : List ℕ
  pub path : Path parents letters i word
  pub total : (w : List ℕ) → Path parents letters from w → length w ≡ length word + count

module _ {parents letters : List ℕ} {from : ℕ} where
  pub climbing_first : {w : List ℕ} → Path parents letters from w → Climbing parents letters from 0 from
  climbing_first {w} p = record { word = w; path = p; total = λ v u. ap length (path_unique u p) ∙ omega arith }

  pub climbing_step : {count i i' : ℕ} → Climbing parents letters from count i → (i ≡ 0 → ⊥) → i' ≡ get_or parents i 0
      → Climbing parents letters from (count + 1) i'
  climbing_step {count} {i} c f e =
      let g = further_of c.path f in
      rw e (record { word = g.before; path = g.path; total = λ w p. omega (arith, c.total w p, g.longer) })

  pub climbing_below : {count i : ℕ} → Climbing parents letters from count i → (i ≡ 0 → ⊥) → i < length parents
  climbing_below c f = (further_of c.path f).below

  pub climbing_done : {count i : ℕ} → Climbing parents letters from count i → i ≡ 0 → (w : List ℕ) → Path parents letters from w → length w ≡ count
  climbing_done {count} c e w p = c.total w p ∙ ap (λ (u : List ℕ). length u + count) (ended_of c.path e) ∙ omega arith

-- ---- the second loop: the letters passed stand from `at` on

pub record Writing (parents letters : List ℕ) (from count : ℕ) (old new : List ℕ) (at j : ℕ) : Type 0 where
  pub word : List ℕ
  pub done : List ℕ
  pub path : Path parents letters j word
  pub place : at ≡ length word
  pub parts : at + length done ≡ count
  pub whole : (w : List ℕ) → Path parents letters from w → w ≡ word ++ done
  pub below : count < length old
  pub content : new ≡ take at old ++ (done ++ drop count old)
  pub long : length new ≡ length old

put : (old done : List ℕ) (m a count : ℕ) → m < length old
    → set (take (suc m) old ++ (done ++ drop count old)) m a ≡ take m old ++ ((a ∷ done) ++ drop count old)
put old done m a count l =
    ap (λ (u : List ℕ). set (u ++ (done ++ drop count old)) m a) (take-suc old m 0 l)
    ∙ ap (λ (u : List ℕ). set u m a) (append_assoc (take m old) (get_or old m 0 ∷ []) (done ++ drop count old))
    ∙ set_at (take m old) (get_or old m 0) (done ++ drop count old) a m (length-take-le m old (omega arith))

module _ {parents letters : List ℕ} {from count : ℕ} where
  pub writing_first : {at : ℕ} {old w : List ℕ} → Path parents letters from w → length w ≡ count → at ≡ count → count < length old
      → Writing parents letters from count old old at from
  writing_first {at} {old} {w} p e z l =
      rw z (record {
        word = w;
        done = [];
        path = p;
        place = sym e;
        parts = omega arith;
        whole = λ v u. path_unique u p ∙ sym (append-nil w);
        below = l;
        content = sym (take-append-drop count old);
        long = refl;
      })

  pub at_positive : {at j : ℕ} {old new : List ℕ} → Writing parents letters from count old new at j → (j ≡ 0 → ⊥) → 1 ≤ at
  at_positive w f = omega (arith, w.place, (further_of w.path f).longer)

  pub writing_below : {at j : ℕ} {old new : List ℕ} → Writing parents letters from count old new at j → (j ≡ 0 → ⊥) → j < length parents
  writing_below w f = (further_of w.path f).below

  pub writing_step : {at at' j j' : ℕ} {old new new' : List ℕ} → Writing parents letters from count old new at j → (j ≡ 0 → ⊥)
      → at' ≡ at - 1 → new' ≡ set new at' (get_or letters j 0) → j' ≡ get_or parents j 0 → Writing parents letters from count old new' at' j'
  writing_step {at} {at'} {j} {old = old} {new} w f e z y =
      let g = further_of w.path f in
      let a = get_or letters j 0 in
      let up : at ≡ suc at' = omega (arith, w.place, g.longer) in
      rw (y, z) (record {
        word = g.before;
        done = a ∷ w.done;
        path = g.path;
        place = omega (arith, w.place, g.longer);
        parts = omega (arith, w.parts);
        whole = λ v u. w.whole v u ∙ ap (λ (x : List ℕ). x ++ w.done) g.splits ∙ append_assoc g.before (a ∷ []) w.done;
        below = w.below;
        content = ap (λ (x : List ℕ). set x at' a) (w.content ∙ ap (λ (n : ℕ). take n old ++ (w.done ++ drop count old)) up) ∙ put old w.done at' a count (omega (arith, w.below, w.parts));
        long = simp length-set w.long;
      })

  pub writing_done : {at j last r : ℕ} {old new : List ℕ} → Writing parents letters from count (set old count last) new at j → j ≡ 0 → r ≡ count + 1
      → Spelt parents letters from last old new r
  unfolding lay
  writing_done {at} {j} {last} {r} {old} {new} w e z =
      record {
        all = λ u p. (
          z ∙ ap (λ (n : ℕ). n + 1) (sym (len u p)),
          w.content ∙ ap (λ (n : ℕ). take n (set old count last) ++ (w.done ++ drop count (set old count last))) at_start
              ∙ ap₂ (λ (x y : List ℕ). x ++ y) (sym (word u p)) (tail u p)
              ∙ sym (append_assoc u (last ∷ []) (drop (length (u ++ (last ∷ []))) old)),
        );
      }
    where
      none : w.word ≡ []
      none = ended_of w.path e

      at_start : at ≡ 0
      at_start = w.place ∙ ap length none

      word : (u : List ℕ) → Path parents letters from u → u ≡ w.done
      word u p = w.whole u p ∙ ap (λ (x : List ℕ). x ++ w.done) none

      len : (u : List ℕ) → Path parents letters from u → length u ≡ count
      len u p = ap length (word u p) ∙ omega (arith, w.parts, at_start)

      l : count < length old
      l = rw length-set at w.below

      tail : (u : List ℕ) → Path parents letters from u → drop count (set old count last) ≡ last ∷ drop (length (u ++ (last ∷ []))) old
      tail u p =
          let n : length (u ++ (last ∷ [])) ≡ suc count = length-append u (last ∷ []) ∙ ap (λ (m : ℕ). m + 1) (len u p) ∙ add-one count in
          ap (drop count) (set_split old count last l) ∙ drop_at (take count old) (last ∷ drop (suc count) old) count (length-take-le count old (omega (arith, l))) ∙ rw n
