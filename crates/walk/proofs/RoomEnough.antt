-- `room_enough`: fewer records are kept than sets are reached from either start, so one room less than those is never full.
-- Each record kept merges two labels of the sets. Assumes nothing.
use mathlib.Core.Path.{◌≡◌, refl, sym, ap, ◌∙◌}
use mathlib.Core.List.{List, [], ◌∷◌, ◌++◌, Memᴰ}
use Prim.Native.Nat.{ℕ, suc, ◌+◌, ◌≤◌, ◌<◌}
use native.Mathlib.Decide.{ℕ_discrete}
use native.Mathlib.Omega.{arith}
use lib.ListN.{length, length-append}
use Rattle.pattern.specs.Pattern.{Sized}
use Rattle.pattern.specs.Language.Over.{empty}
use Rattle.congruence.specs.Congruence.{Congruent, Listed}
use Rattle.congruence.specs.Congruence.Congruent.{back, on}
use Rattle.congruence.proofs.Laws.{of_equal}
use Rattle.walk.specs.Walk.{Question, Record, lefts_of, rights_of, Position, upcoming, Remains, Implied, Moves, Outcome, kept_of, Ends, Moved, Walk}
use Rattle.walk.specs.Walk.Moves.{skipped}
use Rattle.walk.specs.Walk.Outcome.{Full}
use Rattle.walk.specs.Walk.Ends.{same, different, full}
use Rattle.walk.specs.Walk.Moved.{stay, go}
use Rattle.walk.specs.Meaning.{Covers}
use Rattle.walk.proofs.Sound.{Sound, sound_begin, sound_move, walk_sound, congruent_more, implied_last}
use Rattle.walk.proofs.Leading.{leads, has_word}
use Rattle.walk.proofs.Counts.{counts}

-- ---- a list with one place less, that has all that the first has but y

record Without (y : ℕ) (l : List ℕ) : Type 0 where
  rest : List ℕ
  less : length l ≡ suc (length rest)
  others : (x : ℕ) → (x ≡ y → ⊥) → Memᴰ x l → Memᴰ x rest

without : {y : ℕ} {l : List ℕ} → Memᴰ y l → Without y l
without {y} (Memᴰ.head {x} {xs} e) = record { rest = xs; less = refl; others = other }
  where
    other : (z : ℕ) → (z ≡ y → ⊥) → Memᴰ z (x ∷ xs) → Memᴰ z xs
    other z f (Memᴰ.head g) = absurd (f (g ∙ sym e))
    other z f (Memᴰ.tail m) = m
without {y} (Memᴰ.tail {x} {xs} m) =
    let r = without m in
    record { rest = x ∷ r.rest; less = ap suc r.less; others = other r }
  where
    other : (r : Without y xs) (z : ℕ) → (z ≡ y → ⊥) → Memᴰ z (x ∷ xs) → Memᴰ z (x ∷ r.rest)
    other r z f (Memᴰ.head g) = Memᴰ.head g
    other r z f (Memᴰ.tail k) = Memᴰ.tail (r.others z f k)

pub some : {y : ℕ} {l : List ℕ} → Memᴰ y l → 0 < length l
some (Memᴰ.head e) = omega arith
some (Memᴰ.tail m) = omega arith

-- ---- labels: each set has one, sets with one label are congruent, and each record kept spares a label

record Labelled (sets : List ℕ) (kept : List Record) : Type 0 where
  label : ℕ → ℕ
  labels : List ℕ
  spared : length labels + length kept ≡ length sets
  total : (x : ℕ) → Memᴰ x sets → Memᴰ (label x) labels
  joins : (x y : ℕ) → label x ≡ label y → Congruent (Listed (lefts_of kept) (rights_of kept)) x y

labelled_begin : (sets : List ℕ) → Labelled sets []
labelled_begin sets = record { label = λ x. x; labels = sets; spared = omega arith; total = λ x m. m; joins = λ x y e. of_equal e }

-- the label u goes over into the label t
relabel : (t u z : ℕ) → Dec (z ≡ u) → ℕ
relabel t u z (yes e) = t
relabel t u z (no f) = z

labelled_more : {sets : List ℕ} {kept : List Record} (r : Record) → Memᴰ r.left sets → Memᴰ r.right sets
    → (Implied kept r → ⊥) → Labelled sets kept → Labelled sets (kept ++ (r ∷ []))
unfolding relabel
labelled_more {sets} {kept} r m n f L =
    record {
      label = λ x. relabel t u (L.label x) (ℕ_discrete (L.label x) u);
      labels = W.rest;
      spared = simp length-append (omega (arith, W.less, L.spared));
      total = λ x k. total' (L.label x) (ℕ_discrete (L.label x) u) (L.total x k);
      joins = λ x y. joins' x y (ℕ_discrete (L.label x) u) (ℕ_discrete (L.label y) u);
    }
  where
    t : ℕ
    t = L.label r.left

    u : ℕ
    u = L.label r.right

    apart : t ≡ u → ⊥
    apart e = f (L.joins r.left r.right e)

    W : Without u L.labels
    W = without (L.total r.right n)

    total' : (z : ℕ) (d : Dec (z ≡ u)) → Memᴰ z L.labels → Memᴰ (relabel t u z d) W.rest
    total' z (yes e) k = W.others t apart (L.total r.left m)
    total' z (no g) k = W.others z g k

    old : {a b : ℕ} → Congruent (Listed (lefts_of kept) (rights_of kept)) a b → Congruent (Listed (lefts_of (kept ++ (r ∷ []))) (rights_of (kept ++ (r ∷ [])))) a b
    old h = congruent_more kept r h

    new : Congruent (Listed (lefts_of (kept ++ (r ∷ []))) (rights_of (kept ++ (r ∷ [])))) r.left r.right
    new = implied_last kept r

    joins' : (x y : ℕ) (d : Dec (L.label x ≡ u)) (e : Dec (L.label y ≡ u)) → relabel t u (L.label x) d ≡ relabel t u (L.label y) e
        → Congruent (Listed (lefts_of (kept ++ (r ∷ []))) (rights_of (kept ++ (r ∷ [])))) x y
    joins' x y (yes d) (yes e) h = old (L.joins x y (d ∙ sym e))
    joins' x y (yes d) (no e) h = on (old (L.joins x r.right d)) (on (back new) (old (L.joins r.left y h)))
    joins' x y (no d) (yes e) h = on (old (L.joins x r.left h)) (on new (old (L.joins r.right y (sym e))))
    joins' x y (no d) (no e) h = old (L.joins x y h)

-- ---- along the walk

module _ {Q : Question} (pos : 0 < Q.pattern.letters) {sets : List ℕ} (covers : Covers Q sets) where
  candidate_in : {p : Position} → Sound Q p → Remains Q p → Memᴰ (upcoming Q p).left sets × Memᴰ (upcoming Q p).right sets
  candidate_in {p} s l =
      let (w, k) = has_word Q pos p.kept s.reached p.examined l in
      let t = leads Q pos p.kept s.reached l k in
      (rw t.left at (covers.from_left w t.letters), rw t.right at (covers.from_right w t.letters))

  labelled_move : {room : ℕ} {p q : Position} → Moves Q room p q → Sound Q p → Labelled sets p.kept → Labelled sets q.kept
  labelled_move (skipped l c) s L = L
  labelled_move {p = p} (Moves.kept l f a h) s L = let i = candidate_in s l in labelled_more (upcoming Q p) i.0 i.1 f L

  labelled_moved : {room : ℕ} {p q : Position} → Moved Q room p q → Sound Q p → Labelled sets p.kept → Labelled sets q.kept
  labelled_moved stay s L = L
  labelled_moved (go m n) s L = labelled_moved n (sound_move Q pos m s) (labelled_move m s L)

  few : {kept : List Record} → Labelled sets kept → length kept < length sets
  few L = omega (arith, L.spared, some (L.total _ (covers.from_left [] empty)))

  few_end : {room : ℕ} {p : Position} {o : Outcome} → Labelled sets p.kept → Ends Q room p o → length (kept_of o) < length sets
  few_end L (same n) = few L
  few_end L (different l f a w) = few L
  few_end L (full l f a h) = few L

  few_full : {room : ℕ} {p : Position} {kept : List Record} {e : ℕ} → Sound Q p → Labelled sets p.kept → Ends Q room p (Full kept e) → suc (length kept) < length sets
  few_full {p = p} s L (full l f a h) =
      let i = candidate_in s l in
      let r = upcoming Q p in
      omega (arith, few (labelled_more r i.0 i.1 f L), length-append p.kept (r ∷ []))

module _ {Q : Question} {room : ℕ} {sets : List ℕ} (sized : Sized Q.pattern.states Q.pattern.letters) (covers : Covers Q sets) where
  labelled : {o : Outcome} (w : Walk Q room o) → Labelled sets w.last.kept
  labelled w = let pos = sized.some_letter in labelled_moved pos covers w.moved (sound_begin Q pos) (labelled_begin sets)

  -- fewer records are kept than sets are reached from either start
  pub room_enough : {o : Outcome} → Walk Q room o → length (kept_of o) < length sets
  room_enough w = few_end sized.some_letter covers (labelled w) w.ends

  -- a room of one less than those is never full
  pub never_full : {kept : List Record} {e : ℕ} → length sets ≤ room + 1 → Walk Q room (Full kept e) → ⊥
  never_full h w =
      let g = few_full sized.some_letter covers (walk_sound sized w) (labelled w) w.ends in
      omega (arith, g, (counts sized w).by_answer)
