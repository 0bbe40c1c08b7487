-- What is left to read after a position: each position has a language of its own, and first, last and follow are right of these.
use mathlib.Core.Path.{◌≡◌, refl, sym, ap, ap₂, subst}
use mathlib.Core.Logic.{◌⊎◌, inl, inr, ⊎_elim}
use mathlib.Core.Bool.{Bool, true, false, ◌&&◌, ◌||◌}
use mathlib.Core.List.{List, [], ◌∷◌, ◌++◌, nil≢cons, head-eq_of_cons-eq, tail-eq_of_cons-eq}
use Prim.Native.Nat.{ℕ, ◌+◌, ◌^◌}
use native.Mathlib.Omega.{arith}
use lib.Bits.{bit_or}
use lib.Dec.{eqb}
use Rattle.std.proofs.lemmas.Bool.{eqb-true, eq-eqb, or_cases, or_left, or_right, and_parts, and_from}
use Rattle.sets.specs.Sets.{Has}
use Rattle.expressions.specs.Expressions.{Expr, Split, Repeats, Takes}
use Rattle.expressions.specs.Expressions.Expr.{event, one, nought, alt, seq, star, plus, opt}
use Rattle.expressions.specs.Expressions.Repeats.{never, again}
use Rattle.expressions.specs.Positions.{size, nullable, when, first, last, linked, follow, named}
use Rattle.sets.proofs.Bits.{has_union, empty_has_none}
use Rattle.sets.proofs.Inclusion.{has_left, has_right}
use Rattle.expressions.proofs.Places.{has_when, when_has, linked_has, has_linked, pow_has, has_pow, In, in_left, in_right, in_apart, first_in, named_in, follow_in}

-- ---- the language that is left after position s

abbrev pub After : Expr → ℕ → ℕ → List ℕ → Type 0
After (event a) p s w = (s ≡ p) × (w ≡ [])
After one p s w = ⊥
After nought p s w = ⊥
After (alt e f) p s w = After e p s w ⊎ After f (p + size e) s w
After (seq e f) p s w = Split (After e p s) (Takes f) w ⊎ After f (p + size e) s w
After (star e) p s w = Split (After e p s) (Repeats (Takes e)) w
After (plus e) p s w = Split (After e p s) (Repeats (Takes e)) w
After (opt e) p s w = After e p s w

pub after_in : (e : Expr) (p s : ℕ) (w : List ℕ) → After e p s w → In p (size e) s
unfolding size
after_in (event a) p s w h = record { low = omega (arith, h.0); high = omega (arith, h.0) }
after_in one p s w h = absurd h
after_in nought p s w h = absurd h
after_in (alt e f) p s w h =
    ⊎_elim (λ g. in_left p (size e) (size f) s (after_in e p s w g)) (λ g. in_right p (size e) (size f) s (after_in f (p + size e) s w g)) h
after_in (seq e f) p s w h =
    ⊎_elim (λ g. in_left p (size e) (size f) s (after_in e p s g.front g.left))
    (λ g. in_right p (size e) (size f) s (after_in f (p + size e) s w g)) h
after_in (star e) p s w h = after_in e p s h.front h.left
after_in (plus e) p s w h = after_in e p s h.front h.left
after_in (opt e) p s w h = after_in e p s w h

-- ---- the empty word

nil_front : (u v : List ℕ) → [] ≡ u ++ v → u ≡ []
nil_front [] v e = refl
nil_front (x ∷ u) v e = absurd (nil≢cons e)

nil_back : (u v : List ℕ) → [] ≡ u ++ v → v ≡ []
nil_back [] v e = sym e
nil_back (x ∷ u) v e = absurd (nil≢cons e)

split_nil : {P Q : List ℕ → Type 0} → Split P Q [] → P [] × Q []
split_nil {P} {Q} h = (subst P (nil_front h.front h.back h.joins) h.left, subst Q (nil_back h.front h.back h.joins) h.right)

nil_split : {P Q : List ℕ → Type 0} → P [] → Q [] → Split P Q []
nil_split p q = record { front = []; back = []; joins = refl; left = p; right = q }

pub nullable_takes : (e : Expr) → nullable e ≡ true → Takes e []
unfolding nullable
nullable_takes (event a) h = absurd (mathlib.Core.Bool.false≢true h)
nullable_takes one h = refl
nullable_takes nought h = absurd (mathlib.Core.Bool.false≢true h)
nullable_takes (alt e f) h = ⊎_elim (λ g. inl (nullable_takes e g)) (λ g. inr (nullable_takes f g)) (or_cases (nullable e) (nullable f) h)
nullable_takes (seq e f) h = let g = and_parts (nullable e) (nullable f) h in nil_split (nullable_takes e g.0) (nullable_takes f g.1)
nullable_takes (star e) h = never
nullable_takes (plus e) h = nil_split (nullable_takes e h) never
nullable_takes (opt e) h = inl refl

pub takes_nullable : (e : Expr) → Takes e [] → nullable e ≡ true
unfolding nullable
takes_nullable (event a) h = absurd (nil≢cons h)
takes_nullable one h = refl
takes_nullable nought h = absurd h
takes_nullable (alt e f) h =
    ⊎_elim (λ g. or_left (nullable e) (nullable f) (takes_nullable e g)) (λ g. or_right (nullable e) (nullable f) (takes_nullable f g)) h
takes_nullable (seq e f) h = let g = split_nil h in and_from (nullable e) (nullable f) (takes_nullable e g.0) (takes_nullable f g.1)
takes_nullable (star e) h = refl
takes_nullable (plus e) h = takes_nullable e (split_nil h).0
takes_nullable (opt e) h = refl

pub last_after : (e : Expr) (p s : ℕ) → Has (last e p) s → After e p s []
unfolding last
last_after (event a) p s h = (has_pow p s h, refl)
last_after one p s h = empty_has_none s h
last_after nought p s h = empty_has_none s h
last_after (alt e f) p s h = ⊎_elim (λ g. inl (last_after e p s g)) (λ g. inr (last_after f (p + size e) s g)) (has_union _ _ s h)
last_after (seq e f) p s h =
    ⊎_elim
    (λ g. let k = has_when (nullable f) (last e p) s g in inl (nil_split (last_after e p s k.1) (nullable_takes f k.0)))
    (λ g. inr (last_after f (p + size e) s g))
    (has_union (when (nullable f) (last e p)) (last f (p + size e)) s h)
last_after (star e) p s h = nil_split (last_after e p s h) never
last_after (plus e) p s h = nil_split (last_after e p s h) never
last_after (opt e) p s h = last_after e p s h

pub after_last : (e : Expr) (p s : ℕ) → After e p s [] → Has (last e p) s
unfolding last
after_last (event a) p s h = rw h.0 (pow_has p)
after_last one p s h = absurd h
after_last nought p s h = absurd h
after_last (alt e f) p s h = ⊎_elim (λ g. has_left _ _ (after_last e p s g)) (λ g. has_right (last e p) _ (after_last f (p + size e) s g)) h
after_last (seq e f) p s h =
    ⊎_elim
    (λ g. let k = split_nil g in has_left _ _ (when_has (last e p) s (takes_nullable f k.1) (after_last e p s k.0)))
    (λ g. has_right (when (nullable f) (last e p)) _ (after_last f (p + size e) s g))
    h
after_last (star e) p s h = after_last e p s (split_nil h).0
after_last (plus e) p s h = after_last e p s (split_nil h).0
after_last (opt e) p s h = after_last e p s h

-- ---- a letter, and then a word

-- from the set m, the letter a leads to a position after which w is left
pub record Goes (m : ℕ) (e : Expr) (p a : ℕ) (w : List ℕ) : Type 0 where
  pub to : ℕ
  pub member : Has m to
  pub label : Has (named e p a) to
  pub after : After e p to w

-- a word that begins with a letter, in two parts
split_cons : {P Q : List ℕ → Type 0} (a : ℕ) (w : List ℕ) → Split P Q (a ∷ w) → (P [] × Q (a ∷ w)) ⊎ Split (λ u. P (a ∷ u)) Q w
split_cons {P} {Q} a w h = go h.front h.joins h.left
  where
    go : (u : List ℕ) → a ∷ w ≡ u ++ h.back → P u → (P [] × Q (a ∷ w)) ⊎ Split (λ u. P (a ∷ u)) Q w
    go [] e p = inl (p, subst Q (sym e) h.right)
    go (b ∷ u) e p =
        inr (record {
          front = u;
          back = h.back;
          joins = tail-eq_of_cons-eq e;
          left = subst (λ (x : ℕ). P (x ∷ u)) (sym (head-eq_of_cons-eq e)) p;
          right = h.right;
        })

cons_split : {P Q : List ℕ → Type 0} {a : ℕ} {w : List ℕ} → Split (λ u. P (a ∷ u)) Q w → Split P Q (a ∷ w)
cons_split {P} {Q} {a} {w} h =
    record {
      front = a ∷ h.front;
      back = h.back;
      joins = ap (λ (l : List ℕ). a ∷ l) h.joins;
      left = h.left;
      right = h.right;
    }

-- a repetition that is not empty begins with a word that is not empty
repeats_cons : {P : List ℕ → Type 0} {x : List ℕ} → Repeats P x → (a : ℕ) (w : List ℕ) → x ≡ a ∷ w → Split (λ u. P (a ∷ u)) (Repeats P) w
repeats_cons never a w e = absurd (nil≢cons e)
repeats_cons (again {u = []} {v} h r) a w e = repeats_cons r a w e
repeats_cons {P} (again {u = b ∷ u} {v} h r) a w e =
    record { front = u; back = v; joins = sym (tail-eq_of_cons-eq e); left = subst (λ (x : ℕ). P (x ∷ u)) (head-eq_of_cons-eq e) h; right = r }

cons_repeats : {P : List ℕ → Type 0} {a : ℕ} {w : List ℕ} → Split (λ u. P (a ∷ u)) (Repeats P) w → Repeats P (a ∷ w)
cons_repeats {P} {a} {w} h = subst (λ (l : List ℕ). Repeats P (a ∷ l)) (sym h.joins) (again h.left h.right)

-- what a split's parts come to
split_map : {P Q R : List ℕ → Type 0} {w : List ℕ} → ((u : List ℕ) → P u → R u) → Split P Q w → Split R Q w
split_map f h = record { front = h.front; back = h.back; joins = h.joins; left = f h.front h.left; right = h.right }

-- ---- a position of one part, seen from the whole

module _ (e f : Expr) (p a : ℕ) where
  alt_l : {m n : ℕ} {w : List ℕ} → ((t : ℕ) → Has m t → Has n t) → Goes m e p a w → Goes n (alt e f) p a w
  unfolding named
  alt_l up g = record { to = g.to; member = up g.to g.member; label = has_left _ _ g.label; after = inl g.after }

  alt_r : {m n : ℕ} {w : List ℕ} → ((t : ℕ) → Has m t → Has n t) → Goes m f (p + size e) a w → Goes n (alt e f) p a w
  unfolding named
  alt_r up g = record { to = g.to; member = up g.to g.member; label = has_right (named e p a) _ g.label; after = inr g.after }

  seq_l : {m n : ℕ} {w : List ℕ} → ((t : ℕ) → Has m t → Has n t) → Split (Goes m e p a) (Takes f) w → Goes n (seq e f) p a w
  unfolding named
  seq_l up k =
      let g = k.left in
      record {
        to = g.to;
        member = up g.to g.member;
        label = has_left _ _ g.label;
        after = inl (record { front = k.front; back = k.back; joins = k.joins; left = g.after; right = k.right });
      }

  seq_r : {m n : ℕ} {w : List ℕ} → ((t : ℕ) → Has m t → Has n t) → Goes m f (p + size e) a w → Goes n (seq e f) p a w
  unfolding named
  seq_r up g = record { to = g.to; member = up g.to g.member; label = has_right (named e p a) _ g.label; after = inr g.after }

  label_left : (t : ℕ) → In p (size e) t → Has (bit_or (named e p a) (named f (p + size e) a)) t → Has (named e p a) t
  label_left t i h = ⊎_elim (λ g. g) (λ g. absurd (in_apart i (named_in f (p + size e) a t g))) (has_union _ _ t h)

  label_right : (t : ℕ) → In (p + size e) (size f) t → Has (bit_or (named e p a) (named f (p + size e) a)) t → Has (named f (p + size e) a) t
  label_right t i h = ⊎_elim (λ g. absurd (in_apart (named_in e p a t g) i)) (λ g. g) (has_union _ _ t h)

  -- and back
  l_alt : {m n : ℕ} {w : List ℕ} (g : Goes n (alt e f) p a w) → In p (size e) g.to → Has m g.to → Goes m e p a w
  unfolding named
  l_alt {w = w} g i h =
      record {
        to = g.to;
        member = h;
        label = label_left g.to i g.label;
        after = ⊎_elim (λ k. k) (λ k. absurd (in_apart i (after_in f (p + size e) g.to w k))) g.after;
      }

  r_alt : {m n : ℕ} {w : List ℕ} (g : Goes n (alt e f) p a w) → In (p + size e) (size f) g.to → Has m g.to → Goes m f (p + size e) a w
  unfolding named
  r_alt {w = w} g i h =
      record {
        to = g.to;
        member = h;
        label = label_right g.to i g.label;
        after = ⊎_elim (λ k. absurd (in_apart (after_in e p g.to w k) i)) (λ k. k) g.after;
      }

  l_seq : {m n : ℕ} {w : List ℕ} (g : Goes n (seq e f) p a w) → In p (size e) g.to → Has m g.to → Split (Goes m e p a) (Takes f) w
  unfolding named
  l_seq {m} {w = w} g i h = ⊎_elim here (λ k. absurd (in_apart i (after_in f (p + size e) g.to w k))) g.after
    where
      here : Split (After e p g.to) (Takes f) w → Split (Goes m e p a) (Takes f) w
      here k =
          record {
            front = k.front;
            back = k.back;
            joins = k.joins;
            left = record { to = g.to; member = h; label = label_left g.to i g.label; after = k.left };
            right = k.right;
          }

  r_seq : {m n : ℕ} {w : List ℕ} (g : Goes n (seq e f) p a w) → In (p + size e) (size f) g.to → Has m g.to → Goes m f (p + size e) a w
  unfolding named
  r_seq {w = w} g i h =
      record {
        to = g.to;
        member = h;
        label = label_right g.to i g.label;
        after = ⊎_elim (λ k. absurd (in_apart (after_in e p g.to k.front k.left) i)) (λ k. k) g.after;
      }

module _ (e : Expr) (p a : ℕ) where
  star_l : {m n : ℕ} {w : List ℕ} → ((t : ℕ) → Has m t → Has n t) → Split (Goes m e p a) (Repeats (Takes e)) w → Goes n (star e) p a w
  unfolding named
  star_l up k =
      let g = k.left in
      record {
        to = g.to;
        member = up g.to g.member;
        label = g.label;
        after = record { front = k.front; back = k.back; joins = k.joins; left = g.after; right = k.right };
      }

  plus_l : {m n : ℕ} {w : List ℕ} → ((t : ℕ) → Has m t → Has n t) → Split (Goes m e p a) (Repeats (Takes e)) w → Goes n (plus e) p a w
  unfolding named
  plus_l up k =
      let g = k.left in
      record {
        to = g.to;
        member = up g.to g.member;
        label = g.label;
        after = record { front = k.front; back = k.back; joins = k.joins; left = g.after; right = k.right };
      }

  l_star : {m n : ℕ} {w : List ℕ} (g : Goes n (star e) p a w) → Has m g.to → Split (Goes m e p a) (Repeats (Takes e)) w
  unfolding named
  l_star g h =
      let k = g.after in
      record {
        front = k.front;
        back = k.back;
        joins = k.joins;
        left = record { to = g.to; member = h; label = g.label; after = k.left };
        right = k.right;
      }

  l_plus : {m n : ℕ} {w : List ℕ} (g : Goes n (plus e) p a w) → Has m g.to → Split (Goes m e p a) (Repeats (Takes e)) w
  unfolding named
  l_plus g h =
      let k = g.after in
      record {
        front = k.front;
        back = k.back;
        joins = k.joins;
        left = record { to = g.to; member = h; label = g.label; after = k.left };
        right = k.right;
      }

  opt_l : {m n : ℕ} {w : List ℕ} → ((t : ℕ) → Has m t → Has n t) → Goes m e p a w → Goes n (opt e) p a w
  unfolding named
  opt_l up g = record { to = g.to; member = up g.to g.member; label = g.label; after = g.after }

  l_opt : {m n : ℕ} {w : List ℕ} (g : Goes n (opt e) p a w) → Has m g.to → Goes m e p a w
  unfolding named
  l_opt g h = record { to = g.to; member = h; label = g.label; after = g.after }

-- ---- the first position

pub first_goes : (e : Expr) (p a : ℕ) (w : List ℕ) → Takes e (a ∷ w) → Goes (first e p) e p a w
unfolding first
first_goes (event b) p a w h =
    record {
      to = p;
      member = pow_has p;
      label = unfold named in (when_has (2 ^ p) p (eq-eqb a b (head-eq_of_cons-eq h)) (pow_has p));
      after = (refl, tail-eq_of_cons-eq h);
    }
first_goes one p a w h = absurd (nil≢cons (sym h))
first_goes nought p a w h = absurd h
first_goes (alt e f) p a w h =
    ⊎_elim
    (λ g. alt_l e f p a (λ t. has_left _ _) (first_goes e p a w g))
    (λ g. alt_r e f p a (λ t. has_right (first e p) _) (first_goes f (p + size e) a w g))
    h
first_goes (seq e f) p a w h =
    ⊎_elim
    (λ g.
    let up = λ (t : ℕ) (k : Has (first f (p + size e)) t).
    has_right (first e p) (when (nullable e) (first f (p + size e))) (when_has _ t (takes_nullable e g.0) k)
    in
    seq_r e f p a up (first_goes f (p + size e) a w g.1))
    (λ g. seq_l e f p a (λ t. has_left _ _) (split_map (λ u. first_goes e p a u) g))
    (split_cons {P = Takes e} a w h)
first_goes (star e) p a w h =
    star_l e p a (λ t k. k) (split_map (λ u. first_goes e p a u) (repeats_cons {P = Takes e} h a w refl))
first_goes (plus e) p a w h =
    plus_l e p a (λ t k. k)
    (split_map (λ u. first_goes e p a u) (⊎_elim (λ k. repeats_cons {P = Takes e} k.1 a w refl) (λ k. k) (split_cons {P = Takes e} a w h)))
first_goes (opt e) p a w h = ⊎_elim (λ g. absurd (nil≢cons (sym g))) (λ g. opt_l e p a (λ t k. k) (first_goes e p a w g)) h

pub goes_first : (e : Expr) (p a : ℕ) (w : List ℕ) → Goes (first e p) e p a w → Takes e (a ∷ w)
unfolding first
goes_first (event b) p a w g =
    let k : Has (when (eqb a b) (2 ^ p)) g.to = unfold named in g.label in
    ap₂ (λ (x : ℕ) (l : List ℕ). x ∷ l) (eqb-true a b (has_when _ _ g.to k).0) g.after.1
goes_first one p a w g = absurd g.after
goes_first nought p a w g = absurd g.after
goes_first (alt e f) p a w g =
    ⊎_elim
    (λ h. inl (goes_first e p a w (l_alt e f p a g (first_in e p g.to h) h)))
    (λ h. inr (goes_first f (p + size e) a w (r_alt e f p a g (first_in f (p + size e) g.to h) h)))
    (has_union _ _ g.to g.member)
goes_first (seq e f) p a w g =
    ⊎_elim
    (λ h. cons_split {P = Takes e} (split_map (λ u. goes_first e p a u) (l_seq e f p a g (first_in e p g.to h) h)))
    (λ h.
    let k = has_when (nullable e) (first f (p + size e)) g.to h in
    record {
      front = [];
      back = a ∷ w;
      joins = refl;
      left = nullable_takes e k.0;
      right = goes_first f (p + size e) a w (r_seq e f p a g (first_in f (p + size e) g.to k.1) k.1);
    })
    (has_union (first e p) (when (nullable e) (first f (p + size e))) g.to g.member)
goes_first (star e) p a w g = cons_repeats {P = Takes e} (split_map (λ u. goes_first e p a u) (l_star e p a g g.member))
goes_first (plus e) p a w g = cons_split {P = Takes e} (split_map (λ u. goes_first e p a u) (l_plus e p a g g.member))
goes_first (opt e) p a w g = inr (goes_first e p a w (l_opt e p a g g.member))

-- ---- the next position

-- after a last position, what is linked to it comes too
linked_on : (m l s f : ℕ) → Has l s → (t : ℕ) → Has f t → Has (bit_or m (linked l s f)) t
linked_on m l s f h t g = has_right m (linked l s f) (linked_has l s f t h g)

pub follow_goes : (e : Expr) (p s a : ℕ) (w : List ℕ) → After e p s (a ∷ w) → Goes (follow e p s) e p a w
unfolding follow
follow_goes (event b) p s a w h = absurd (nil≢cons (sym h.1))
follow_goes one p s a w h = absurd h
follow_goes nought p s a w h = absurd h
follow_goes (alt e f) p s a w h =
    ⊎_elim
    (λ g. alt_l e f p a (λ t. has_left _ _) (follow_goes e p s a w g))
    (λ g. alt_r e f p a (λ t. has_right (follow e p s) _) (follow_goes f (p + size e) s a w g))
    h
follow_goes (seq e f) p s a w h =
    ⊎_elim
    (λ k.
    ⊎_elim
    (λ g.
    let up = linked_on (bit_or (follow e p s) (follow f (p + size e) s)) (last e p) s (first f (p + size e)) (after_last e p s g.0) in
    seq_r e f p a up (first_goes f (p + size e) a w g.1))
    (λ g. seq_l e f p a (λ t j. has_left _ _ (has_left _ _ j)) (split_map (λ u. follow_goes e p s a u) g))
    (split_cons {P = After e p s} a w k))
    (λ k. seq_r e f p a (λ t j. has_left _ _ (has_right (follow e p s) _ j)) (follow_goes f (p + size e) s a w k))
    h
follow_goes (star e) p s a w h =
    ⊎_elim
    (λ g.
    star_l e p a (linked_on (follow e p s) (last e p) s (first e p) (after_last e p s g.0))
    (split_map (λ u. first_goes e p a u) (repeats_cons {P = Takes e} g.1 a w refl)))
    (λ g. star_l e p a (λ t j. has_left _ _ j) (split_map (λ u. follow_goes e p s a u) g))
    (split_cons {P = After e p s} a w h)
follow_goes (plus e) p s a w h =
    ⊎_elim
    (λ g.
    plus_l e p a (linked_on (follow e p s) (last e p) s (first e p) (after_last e p s g.0))
    (split_map (λ u. first_goes e p a u) (repeats_cons {P = Takes e} g.1 a w refl)))
    (λ g. plus_l e p a (λ t j. has_left _ _ j) (split_map (λ u. follow_goes e p s a u) g))
    (split_cons {P = After e p s} a w h)
follow_goes (opt e) p s a w h = opt_l e p a (λ t j. j) (follow_goes e p s a w h)

pub goes_follow : (e : Expr) (p s a : ℕ) (w : List ℕ) → Goes (follow e p s) e p a w → After e p s (a ∷ w)
unfolding follow
goes_follow (event b) p s a w g = absurd (empty_has_none g.to g.member)
goes_follow one p s a w g = absurd (empty_has_none g.to g.member)
goes_follow nought p s a w g = absurd (empty_has_none g.to g.member)
goes_follow (alt e f) p s a w g =
    ⊎_elim
    (λ h. inl (goes_follow e p s a w (l_alt e f p a g (follow_in e p s g.to h) h)))
    (λ h. inr (goes_follow f (p + size e) s a w (r_alt e f p a g (follow_in f (p + size e) s g.to h) h)))
    (has_union _ _ g.to g.member)
goes_follow (seq e f) p s a w g =
    ⊎_elim
    (λ k.
    ⊎_elim
    (λ h. inl (cons_split {P = After e p s} (split_map (λ u. goes_follow e p s a u) (l_seq e f p a g (follow_in e p s g.to h) h))))
    (λ h. inr (goes_follow f (p + size e) s a w (r_seq e f p a g (follow_in f (p + size e) s g.to h) h)))
    (has_union _ _ g.to k))
    (λ h.
    let k = has_linked (last e p) s (first f (p + size e)) g.to h in
    inl (record {
      front = [];
      back = a ∷ w;
      joins = refl;
      left = last_after e p s k.0;
      right = goes_first f (p + size e) a w (r_seq e f p a g (first_in f (p + size e) g.to k.1) k.1);
    }))
    (has_union (bit_or (follow e p s) (follow f (p + size e) s)) (linked (last e p) s (first f (p + size e))) g.to g.member)
goes_follow (star e) p s a w g =
    ⊎_elim
    (λ h. cons_split {P = After e p s} (split_map (λ u. goes_follow e p s a u) (l_star e p a g h)))
    (λ h.
    let k = has_linked (last e p) s (first e p) g.to h in
    record {
      front = [];
      back = a ∷ w;
      joins = refl;
      left = last_after e p s k.0;
      right = cons_repeats {P = Takes e} (split_map (λ u. goes_first e p a u) (l_star e p a g k.1));
    })
    (has_union (follow e p s) (linked (last e p) s (first e p)) g.to g.member)
goes_follow (plus e) p s a w g =
    ⊎_elim
    (λ h. cons_split {P = After e p s} (split_map (λ u. goes_follow e p s a u) (l_plus e p a g h)))
    (λ h.
    let k = has_linked (last e p) s (first e p) g.to h in
    record {
      front = [];
      back = a ∷ w;
      joins = refl;
      left = last_after e p s k.0;
      right = cons_repeats {P = Takes e} (split_map (λ u. goes_first e p a u) (l_plus e p a g k.1));
    })
    (has_union (follow e p s) (linked (last e p) s (first e p)) g.to g.member)
goes_follow (opt e) p s a w g = goes_follow e p s a w (l_opt e p a g g.member)
