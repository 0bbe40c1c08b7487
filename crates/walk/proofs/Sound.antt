-- What holds wherever the walk stands: its count, that every candidate dealt with is congruent by the records, and where each record lies. Assumes nothing.
use mathlib.Core.Path.{◌≡◌, refl, sym, ap, ◌∙◌, subst}
use mathlib.Core.Logic.{⊎_elim}
use mathlib.Core.List.{List, [], ◌∷◌, ◌++◌}
use Prim.Native.Nat.{ℕ, zero, suc, ◌+◌, ◌/◌, ◌%◌, ◌≤◌, ◌<◌}
use native.Mathlib.Nat.{div-lt_iff_lt-mul, mod-lt, mul_comm, mul-add, mul-one, eq-or-lt_of_le, le_of_suc-le-suc}
use native.Mathlib.Omega.{arith}
use lib.ListN.{length, get_or, length-append, length-map}
use Rattle.pattern.specs.Pattern.{Sized}
use Rattle.pattern.specs.Language.{next, reach, accepts, Over}
use Rattle.pattern.specs.Language.Over.{empty}
use Rattle.pattern.proofs.Words.{reach_snoc, over_snoc}
use Rattle.congruence.specs.Congruence.{Congruent, Listed}
use Rattle.congruence.specs.Congruence.Congruent.{given}
use Rattle.congruence.proofs.Laws.{monotone}
use Rattle.walk.specs.Walk.{Question, Record, lefts_of, rights_of, parents_of, letters_of, candidate, candidates, Position, begin, upcoming, Implied, Agrees, Moves, Path, Outcome, Moved, Walk}
use Rattle.walk.specs.Walk.Moves.{skipped}
use Rattle.walk.specs.Walk.Path.{start, further}
use Rattle.walk.specs.Walk.Moved.{stay, go}
use Rattle.walk.proofs.Columns.{column_snoc, column_old, column_new}
use Rattle.walk.proofs.Paths.{path_append}

abbrev left : Record → ℕ
left r = r.left

abbrev right : Record → ℕ
right r = r.right

abbrev parent : Record → ℕ
parent r = r.parent

abbrev letter : Record → ℕ
letter r = r.letter

-- ---- a record more

module _ (kept : List Record) (r : Record) where
  below_more : {i : ℕ} → i < length (lefts_of kept) → i < length (lefts_of (kept ++ (r ∷ [])))
  below_more h = simp (length-map, length-append) (omega (arith, length-map kept left))

  listed_more : {a b : ℕ} → Listed (lefts_of kept) (rights_of kept) a b → Listed (lefts_of (kept ++ (r ∷ []))) (rights_of (kept ++ (r ∷ []))) a b
  listed_more l =
      let h : l.at < length kept = rw (length-map kept left) at l.below in
      record {
        at = l.at;
        below = below_more l.below;
        left = column_old left kept r l.at h ∙ l.left;
        right = column_old right kept r l.at h ∙ l.right;
      }

  pub congruent_more : {a b : ℕ} → Congruent (Listed (lefts_of kept) (rights_of kept)) a b
      → Congruent (Listed (lefts_of (kept ++ (r ∷ []))) (rights_of (kept ++ (r ∷ [])))) a b
  congruent_more h = monotone (λ a b l. listed_more l) h

  -- the record's own pair is listed
  pub implied_last : Implied (kept ++ (r ∷ [])) r
  implied_last =
      given (record {
        at = length kept;
        below = simp (length-map, length-append) (omega arith);
        left = column_new left kept r;
        right = column_new right kept r;
      })

  path_more : {i : ℕ} {w : List ℕ} → Path (parents_of kept) (letters_of kept) i w → Path (parents_of (kept ++ (r ∷ []))) (letters_of (kept ++ (r ∷ []))) i w
  path_more p =
      rw (column_snoc parent kept r, column_snoc letter kept r)
      (path_append (r.parent ∷ []) (r.letter ∷ []) (length-map kept parent ∙ sym (length-map kept letter)) p)

-- record number i lies at the end of its path, which is no longer than i, and its two sides agree
pub record Reached (Q : Question) (kept : List Record) (i : ℕ) : Type 0 where
  pub word : List ℕ
  pub path : Path (parents_of kept) (letters_of kept) i word
  pub over : Over Q.pattern.letters word
  pub short : length word ≤ i
  pub left : reach Q.pattern Q.left word ≡ get_or (lefts_of kept) i 0
  pub right : reach Q.pattern Q.right word ≡ get_or (rights_of kept) i 0
  pub agrees : accepts Q.pattern (get_or (lefts_of kept) i 0) [] ≡ accepts Q.pattern (get_or (rights_of kept) i 0) []
  pub earlier : 0 < i → get_or (parents_of kept) i 0 < i

-- what holds at a position that the walk comes to
pub record Sound (Q : Question) (p : Position) : Type 0 where
  pub fewer : length p.kept ≤ p.examined
  pub counted : p.examined ≤ candidates Q p.kept
  pub dealt : (e : ℕ) → e < p.examined → Implied p.kept (candidate Q p.kept e)
  pub reached : (i : ℕ) → i < length p.kept → Reached Q p.kept i

module _ (Q : Question) (pos : 0 < Q.pattern.letters) where
  -- a later candidate comes from a record that is kept
  pub from_below : (kept : List Record) (e : ℕ) → suc e < candidates Q kept → e / Q.pattern.letters < length kept
  from_below kept e h = (div-lt_iff_lt-mul pos).1 (omega (arith, mul_comm (length kept) Q.pattern.letters))

  -- a record more leaves the candidates that were there
  candidate_more : (kept : List Record) (r : Record) (e : ℕ) → e < candidates Q kept → candidate Q (kept ++ (r ∷ [])) e ≡ candidate Q kept e
  unfolding candidate
  candidate_more kept r zero h = refl
  candidate_more kept r (suc e) h =
      let b = from_below kept e h in
      rw (column_old left kept r (e / Q.pattern.letters) b, column_old right kept r (e / Q.pattern.letters) b)

  pub candidates_more : (kept : List Record) (r : Record) → candidates Q (kept ++ (r ∷ [])) ≡ candidates Q kept + Q.pattern.letters
  candidates_more kept r = simp (length-append, mul-add, mul-one) (omega arith)

  reached_more : (kept : List Record) (r : Record) {i : ℕ} → i < length kept → Reached Q kept i → Reached Q (kept ++ (r ∷ [])) i
  reached_more kept r {i} l R =
      let el = column_old left kept r i l in
      let er = column_old right kept r i l in
      record {
        word = R.word;
        path = path_more kept r R.path;
        over = R.over;
        short = R.short;
        left = R.left ∙ sym el;
        right = R.right ∙ sym er;
        agrees = rw (el, er) R.agrees;
        earlier = λ h. rw (column_old parent kept r i l) (R.earlier h);
      }

  reached_new : (kept : List Record) (e : ℕ) → length kept ≤ e → e < candidates Q kept → ((i : ℕ) → i < length kept → Reached Q kept i)
      → Agrees Q (candidate Q kept e) → Reached Q (kept ++ (candidate Q kept e ∷ [])) (length kept)
  unfolding candidate reach
  reached_new [] zero f l old a =
      record {
        word = [];
        path = start;
        over = empty;
        short = omega arith;
        left = refl;
        right = refl;
        agrees = a;
        earlier = λ h. absurd (omega arith);
      }
  reached_new (r ∷ kept) zero f l old a = absurd (omega arith)
  reached_new kept (suc e) f l old a =
      let k = Q.pattern.letters in
      let P = Q.pattern in
      let b = from_below kept e l in
      let R = old (e / k) b in
      let r = candidate Q kept (suc e) in
      let K = kept ++ (r ∷ []) in
      let el = column_new left kept r in
      let er = column_new right kept r in
      let ep = column_new parent kept r in
      let ea = column_new letter kept r in
      record {
        word = R.word ++ (e % k ∷ []);
        path = subst (λ (a : ℕ). Path (parents_of K) (letters_of K) (length kept) (R.word ++ (a ∷ []))) ea
            (further (omega arith) (simp (length-map, length-append) (omega arith))
            (subst (λ (i : ℕ). Path (parents_of K) (letters_of K) i R.word) (sym ep) (path_more kept r R.path)));
        over = over_snoc R.over (mod-lt e pos);
        short = simp length-append (omega (arith, R.short));
        left = reach_snoc P Q.left R.word (e % k) ∙ ap (λ (s : ℕ). next P s (e % k)) R.left ∙ sym el;
        right = reach_snoc P Q.right R.word (e % k) ∙ ap (λ (s : ℕ). next P s (e % k)) R.right ∙ sym er;
        agrees = rw (el, er) a;
        earlier = λ h. rw ep b;
      }

  pub sound_begin : Sound Q begin
  sound_begin = record { fewer = omega arith; counted = omega arith; dealt = λ e h. absurd (omega arith); reached = λ i h. absurd (omega arith) }

  pub sound_move : {room : ℕ} {p q : Position} → Moves Q room p q → Sound Q p → Sound Q q
  sound_move {p = p} (skipped l c) s =
      record {
        fewer = omega (arith, s.fewer);
        counted = l;
        dealt = λ e h. ⊎_elim (λ (z : e ≡ p.examined). rw z c) (λ g. s.dealt e g) (eq-or-lt_of_le (le_of_suc-le-suc h));
        reached = s.reached;
      }
  sound_move {p = p} (Moves.kept l f a h) s =
      let r = upcoming Q p in
      record {
        fewer = simp length-append (omega (arith, s.fewer));
        counted = omega (arith, candidates_more p.kept r);
        dealt = λ e g. ⊎_elim
            (λ (z : e ≡ p.examined). rw (z, candidate_more p.kept r p.examined l) (implied_last p.kept r))
            (λ b. rw (candidate_more p.kept r e (omega (arith, s.counted))) (congruent_more p.kept r (s.dealt e b)))
            (eq-or-lt_of_le (le_of_suc-le-suc g));
        reached = λ i g. ⊎_elim
            (λ (z : i ≡ length p.kept). rw z (reached_new p.kept p.examined s.fewer l s.reached a))
            (λ b. reached_more p.kept r b (s.reached i b))
            (eq-or-lt_of_le (le_of_suc-le-suc (let g' : i < length p.kept + 1 = rw length-append at g in omega arith)));
      }

  pub sound_moved : {room : ℕ} {p q : Position} → Moved Q room p q → Sound Q p → Sound Q q
  sound_moved stay s = s
  sound_moved (go m n) s = sound_moved n (sound_move m s)

-- ---- the end of a walk

pub walk_sound : {Q : Question} {room : ℕ} {o : Outcome} → Sized Q.pattern.states Q.pattern.letters → (w : Walk Q room o) → Sound Q w.last
walk_sound {Q} sized w = sound_moved Q sized.some_letter w.moved (sound_begin Q sized.some_letter)

-- ---- the room

fits_move : {Q : Question} {room : ℕ} {p q : Position} → Moves Q room p q → length p.kept ≤ room → length q.kept ≤ room
fits_move (skipped l c) h = h
fits_move (Moves.kept l f a g) h = simp length-append (omega arith)

-- no more records are kept than the room allows
pub fits_moved : {Q : Question} {room : ℕ} {p q : Position} → Moved Q room p q → length p.kept ≤ room → length q.kept ≤ room
fits_moved stay h = h
fits_moved (go m n) h = fits_moved n (fits_move m h)

pub moved_more : {Q : Question} {room : ℕ} {p q r : Position} → Moved Q room p q → Moves Q room q r → Moved Q room p r
moved_more stay m = go m stay
moved_more (go n k) m = go n (moved_more k m)
