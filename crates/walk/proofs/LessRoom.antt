-- `less_room`, `room_suffices`: what the outcome in one room says of the outcome in a smaller one. Assumes nothing.
use mathlib.Core.Path.{◌≡◌, refl, sym, ap, ◌∙◌}
use mathlib.Core.List.{List, [], ◌∷◌, ◌++◌, map, map-append, append_assoc, append-nil}
use Prim.Native.Nat.{ℕ, zero, suc, ◌≤◌, ◌<◌}
use native.Mathlib.Nat.{div-add-mod', not-suc-le-zero}
use native.Mathlib.Decide.{dec_lt}
use native.Mathlib.Omega.{arith}
use lib.ListN.{length, get_or, take, length-append, length-map}
use lib.Seq.{get_or_at, take_at}
use Rattle.pattern.specs.Pattern.{Sized}
use Rattle.walk.specs.Walk.{Question, Record, candidate, candidates, Position, begin, upcoming, Remains, Implied, Agrees, keep, Moves, Outcome, kept_of, Ends, Moved, Walk}
use Rattle.walk.specs.Walk.Moves.{skipped}
use Rattle.walk.specs.Walk.Outcome.{Full}
use Rattle.walk.specs.Walk.Ends.{same, different, full}
use Rattle.walk.specs.Walk.Moved.{stay, go}
use Rattle.walk.specs.Columns.{columns_of}
use Rattle.walk.specs.Meaning.{number_kept, cut_to}
use Rattle.walk.proofs.Sound.{sound_begin, sound_moved, from_below}
use Rattle.walk.proofs.Counts.{counts}

-- ---- the records kept are never taken back

module _ {Q : Question} {room : ℕ} where
  grown : {p q : Position} → Moved Q room p q → (rest : List Record) × (q.kept ≡ p.kept ++ rest)
  grown {p} stay = ([], sym (append-nil p.kept))
  grown (go (skipped l c) n) = grown n
  grown {p} (go (Moves.kept l f a h) n) =
      let (rest, e) = grown n in
      (upcoming Q p ∷ rest, e ∙ append_assoc p.kept (upcoming Q p ∷ []) rest)

  grows : {p q : Position} → Moved Q room p q → length p.kept ≤ length q.kept
  grows {p} n = let (rest, e) = grown n in omega (arith, ap length e, length-append p.kept rest)

  last_kept : {p : Position} {o : Outcome} → Ends Q room p o → p.kept ≡ kept_of o
  last_kept (same n) = refl
  last_kept (different l f a w) = refl
  last_kept (full l f a h) = refl

-- ---- a room that holds what is kept

module _ {Q : Question} {room : ℕ} (r : ℕ) where
  moved_within : {p q : Position} → length q.kept ≤ r → Moved Q room p q → Moved Q r p q
  moved_within h stay = stay
  moved_within h (go (skipped l c) n) = go (skipped l c) (moved_within h n)
  moved_within h (go {p} (Moves.kept l f a g) n) =
      go (Moves.kept l f a (omega (arith, grows n, length-append p.kept (upcoming Q p ∷ [])))) (moved_within h n)

  ends_within : {p : Position} {o : Outcome} → r ≤ room → Ends Q room p o → Ends Q r p o
  ends_within le (same n) = same n
  ends_within le (different l f a w) = different l f a w
  ends_within le (full l f a h) = full l f a (omega arith)

  -- an outcome that keeps at most r records is the outcome in room r
  pub room_suffices : {o : Outcome} → r ≤ room → length (kept_of o) ≤ r → Walk Q room o → Walk Q r o
  room_suffices le h w =
      let fits : length w.last.kept ≤ r = rw (last_kept w.ends) h in
      record { last = w.last; moved = moved_within fits w.moved; ends = ends_within le w.ends }

-- ---- a room that does not

-- where the walk keeps record number r
record Keeps (Q : Question) (room r : ℕ) (p q : Position) : Type 0 where
  at : Position
  moved : Moved Q r p at
  many : length at.kept ≡ r
  remains : Remains Q at
  new : Implied at.kept (upcoming Q at) → ⊥
  agrees : Agrees Q (upcoming Q at)
  after : Moved Q room (keep Q at) q

module _ {Q : Question} {room r : ℕ} where
  keeps_later : {p p' q : Position} → Moves Q r p p' → Keeps Q room r p' q → Keeps Q room r p q
  keeps_later m k =
      record { at = k.at; moved = go m k.moved; many = k.many; remains = k.remains; new = k.new; agrees = k.agrees; after = k.after }

  keeps : {p q : Position} → length p.kept ≤ r → r < length q.kept → Moved Q room p q → Keeps Q room r p q
  keeps h g stay = absurd (omega arith)
  keeps h g (go (skipped l c) n) = keeps_later (skipped l c) (keeps h g n)
  keeps {q = q} h g (go {p} (Moves.kept l f a b) n) = pick (dec_lt (length p.kept) r) (λ d. keeps (simp length-append (omega arith)) g n)
    where
      pick : Dec (length p.kept < r) → (length p.kept < r → Keeps Q room r (keep Q p) q) → Keeps Q room r p q
      pick (yes d) later = keeps_later (Moves.kept l f a d) (later d)
      pick (no d) later = record { at = p; moved = stay; many = omega arith; remains = l; new = f; agrees = a; after = n }

-- the column of a record that others follow
column_at : (f : Record → ℕ) (kept rest : List Record) (r : Record) → get_or (map f (kept ++ (r ∷ rest))) (length kept) 0 ≡ f r
column_at f kept rest r =
    ap (λ (xs : List ℕ). get_or xs (length kept) 0) (map-append f kept (r ∷ rest)) ∙ get_or_at (map f kept) (f r) (map f rest) 0 (length kept) (length-map kept f)

-- a candidate that is kept has its number in its record
number_kept_lem : (Q : Question) → 0 < Q.pattern.letters → (kept rest : List Record) (e : ℕ) → length kept ≤ e → e < candidates Q kept
    → (all : List Record) → all ≡ kept ++ (candidate Q kept e ∷ rest) → number_kept Q.pattern.letters (columns_of all) (length kept) ≡ e
unfolding candidate
number_kept_lem Q pos [] rest zero f l all z = refl
number_kept_lem Q pos [] rest (suc e) f l all z = absurd (not-suc-le-zero (from_below Q pos [] e l))
number_kept_lem Q pos (x ∷ kept) rest zero f l all z = absurd (omega arith)
number_kept_lem Q pos (x ∷ kept) rest (suc e) f l all z =
    let k = Q.pattern.letters in
    let c = candidate Q (x ∷ kept) (suc e) in
    let ep = column_at (λ (r : Record). r.parent) (x ∷ kept) rest c in
    let el = column_at (λ (r : Record). r.letter) (x ∷ kept) rest c in
    rw (z, ep, el) (omega (arith, div-add-mod' e k))

module _ {Q : Question} {room : ℕ} (sized : Sized Q.pattern.states Q.pattern.letters) (r : ℕ) where
  -- an outcome that keeps more than r records is FULL in room r: with the first r, at the candidate that was kept next
  pub less_room : {o : Outcome} → r < length (kept_of o) → Walk Q room o → Walk Q r (cut_to Q r (kept_of o))
  less_room {o} h w = found (keeps (omega arith) (rw (last_kept w.ends) h) w.moved)
    where
      found : Keeps Q room r begin w.last → Walk Q r (cut_to Q r (kept_of o))
      found k =
          let pos = sized.some_letter in
          let p = k.at in
          let s = sound_moved Q pos k.moved (sound_begin Q pos) in
          let (rest, g) = grown k.after in
          let all : kept_of o ≡ p.kept ++ (upcoming Q p ∷ rest) = sym (last_kept w.ends) ∙ g ∙ append_assoc p.kept (upcoming Q p ∷ []) rest in
          let first : take r (kept_of o) ≡ p.kept = ap (take r) all ∙ take_at p.kept (upcoming Q p ∷ rest) r k.many in
          let number : number_kept Q.pattern.letters (columns_of (kept_of o)) r ≡ p.examined =
          rw (← k.many) (number_kept_lem Q pos p.kept rest p.examined s.fewer k.remains (kept_of o) all) in
          rw (first, number) (record { last = p; moved = k.moved; ends = full k.remains k.new k.agrees (omega (arith, k.many)) })

  -- FULL stays FULL in less room, with its first records
  pub full_less_room : {kept : List Record} {e : ℕ} → r < room → Walk Q room (Full kept e) → Walk Q r (cut_to Q r kept)
  full_less_room h w = less_room (omega (arith, (counts sized w).by_answer)) w
