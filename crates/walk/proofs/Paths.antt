-- The laws of paths: one letter sequence for each record, its last letter, longer columns, and that there is one. Assumes nothing.
use mathlib.Core.Path.{◌≡◌, refl, sym, ap, subst}
use mathlib.Core.List.{List, [], ◌∷◌, ◌++◌}
use Prim.Native.Nat.{ℕ, zero, suc, ◌+◌, ◌≤◌, ◌<◌}
use native.Mathlib.Omega.{arith}
use lib.ListN.{length, get_or, length-append, get_or-append}
use Rattle.walk.specs.Walk.{Path}
use Rattle.walk.specs.Walk.Path.{start, further}

pub path_unique : {parents letters : List ℕ} {i : ℕ} {v w : List ℕ} → Path parents letters i v → Path parents letters i w → v ≡ w
path_unique start start = refl
path_unique start (further h l p) = absurd (omega arith)
path_unique (further h l p) start = absurd (omega arith)
path_unique {parents} {letters} {i} (further h l p) (further h' l' p') = ap (λ (u : List ℕ). u ++ (get_or letters i 0 ∷ [])) (path_unique p p')

-- a path that is not at its end has a last letter
pub record Further (parents letters : List ℕ) (i : ℕ) (w : List ℕ) : Type 0 where
  pub below : i < length parents
  pub before : List ℕ
  pub path : Path parents letters (get_or parents i 0) before
  pub splits : w ≡ before ++ (get_or letters i 0 ∷ [])
  pub longer : length w ≡ length before + 1

module _ {parents letters : List ℕ} where
  pub further_of : {i : ℕ} {w : List ℕ} → Path parents letters i w → (i ≡ 0 → ⊥) → Further parents letters i w
  further_of start f = absurd (f refl)
  further_of {i} (further {w = v} h l p) f =
      record { below = l; before = v; path = p; splits = refl; longer = length-append v (get_or letters i 0 ∷ []) }

  pub ended_of : {i : ℕ} {w : List ℕ} → Path parents letters i w → i ≡ 0 → w ≡ []
  ended_of start e = refl
  ended_of (further h l p) e = absurd (omega arith)

  -- longer columns have the same path
  pub path_append : (parents' letters' : List ℕ) → length parents ≡ length letters → {i : ℕ} {w : List ℕ} → Path parents letters i w
      → Path (parents ++ parents') (letters ++ letters') i w
  path_append parents' letters' alike start = start
  path_append parents' letters' alike (further {i} {w} h l p) =
      let ep = get_or-append parents parents' 0 i l in
      let el = get_or-append letters letters' 0 i (omega arith) in
      subst (λ (a : ℕ). Path (parents ++ parents') (letters ++ letters') i (w ++ (a ∷ []))) el
      (further h (simp length-append (omega arith))
      (subst (λ (q : ℕ). Path (parents ++ parents') (letters ++ letters') q w) (sym ep) (path_append parents' letters' alike p)))

-- the way to record i is no longer than i, where each record but the first has an earlier parent
pub record Way (parents letters : List ℕ) (i : ℕ) : Type 0 where
  pub word : List ℕ
  pub short : length word ≤ i
  pub path : Path parents letters i word

module _ (parents letters : List ℕ) (earlier : (i : ℕ) → 0 < i → i < length parents → get_or parents i 0 < i) where
  way_below : (m i : ℕ) → i < m → i < length parents → Way parents letters i
  way_below zero i b h = absurd (omega arith)
  way_below (suc m) zero b h = record { word = []; short = omega arith; path = start }
  way_below (suc m) (suc i) b h =
      let g = earlier (suc i) (omega arith) h in
      let w = way_below m (get_or parents (suc i) 0) (omega arith) (omega arith) in
      record {
        word = w.word ++ (get_or letters (suc i) 0 ∷ []);
        short = simp length-append (omega (arith, w.short));
        path = further {i = suc i} (omega arith) h w.path;
      }

  pub way : (i : ℕ) → i < length parents → Way parents letters i
  way i h = way_below (suc i) i (omega arith) h
