-- Where the positions of an expression lie: its first, last, following and named positions are among its own.
use mathlib.Core.Path.{◌≡◌, refl, sym, ap, ◌∙◌}
use mathlib.Core.Logic.{⊎_elim}
use mathlib.Core.Bool.{Bool, true, false}
use Prim.Native.Nat.{ℕ, suc, ◌+◌, ◌-◌, ◌/◌, ◌%◌, ◌^◌, ◌≤◌, ◌<◌}
use native.Mathlib.Nat.{one-mul, zero-mul, div-eq_of_lt, div_self, pow-suc, mul-mod_left}
use native.Mathlib.Decide.{dec_le, dec_lt}
use native.Mathlib.Omega.{arith}
use lib.Pow.{pow_pos, pow-lt, pow-add, shl-shr}
use Rattle.sets.specs.Sets.{bit, Has}
use Rattle.expressions.specs.Expressions.{Expr}
use Rattle.expressions.specs.Expressions.Expr.{event, one, nought, alt, seq, star, plus, opt}
use Rattle.expressions.specs.Positions.{size, nullable, when, first, last, linked, follow, named}
use Rattle.sets.proofs.Bits.{has_union, empty_has_none}

-- ---- masks with one state, or with a condition

pub has_when : (b : Bool) (m s : ℕ) → Has (when b m) s → (b ≡ true) × Has m s
unfolding when
has_when true m s h = (refl, h)
has_when false m s h = absurd (empty_has_none s h)

pub when_has : {b : Bool} (m s : ℕ) → b ≡ true → Has m s → Has (when b m) s
unfolding when
when_has m s e h = rw e h

pub linked_has : (l s m t : ℕ) → Has l s → Has m t → Has (linked l s m) t
linked_has l s m t h g = rw (h.is_one, one-mul) g

pub has_linked : (l s m t : ℕ) → Has (linked l s m) t → Has l s × Has m t
has_linked l s m t h = go (dec_le 1 (bit l s))
  where
    go : Dec (1 ≤ bit l s) → Has l s × Has m t
    go (yes p) =
        let e : bit l s ≡ 1 = omega arith in
        (record { is_one = e }, rw (e, one-mul) at h)
    go (no p) =
        let e : bit l s ≡ 0 = omega arith in
        absurd (empty_has_none t (rw (e, zero-mul) at h))

pub pow_has : (p : ℕ) → Has (2 ^ p) p
pow_has p = record { is_one = ap (λ (x : ℕ). x % 2) (div_self (pow_pos p)) }

pow_low : (d s : ℕ) → bit (2 ^ (suc d + s)) s ≡ 0
pow_low d s =
    ap (λ (x : ℕ). x / 2 ^ s % 2) (pow-add 2 (suc d) s) ∙ ap (λ (x : ℕ). x % 2) (shl-shr (2 ^ suc d) s ∙ pow-suc 2 d) ∙ mul-mod_left (2 ^ d) 2

pub has_pow : (p s : ℕ) → Has (2 ^ p) s → s ≡ p
has_pow p s h = go (dec_lt s p) (dec_lt p s)
  where
    go : Dec (s < p) → Dec (p < s) → s ≡ p
    go (yes l) d =
        let e : suc (p - s - 1) + s ≡ p = omega arith in
        let z : bit (2 ^ p) s ≡ 0 = ap (λ (x : ℕ). bit (2 ^ x) s) (sym e) ∙ pow_low (p - s - 1) s in
        omega arith
    go (no l) (yes g) =
        let z : bit (2 ^ p) s ≡ 0 = ap (λ (x : ℕ). x % 2) (div-eq_of_lt (pow-lt g)) in
        omega arith
    go (no l) (no g) = omega arith

-- ---- where the positions lie

pub record In (p n s : ℕ) : Type 0 where
  pub low : p ≤ s
  pub high : s < p + n

pub in_left : (p m n s : ℕ) → In p m s → In p (m + n) s
in_left p m n s i = record { low = i.low; high = omega arith }

pub in_right : (p m n s : ℕ) → In (p + m) n s → In p (m + n) s
in_right p m n s i = record { low = omega arith; high = omega arith }

pub in_apart : {p m n s : ℕ} → In p m s → In (p + m) n s → ⊥
in_apart i j = omega arith

pub first_in : (e : Expr) (p s : ℕ) → Has (first e p) s → In p (size e) s
unfolding first size
first_in (event a) p s h = let z = has_pow p s h in record { low = omega arith; high = omega arith }
first_in one p s h = absurd (empty_has_none s h)
first_in nought p s h = absurd (empty_has_none s h)
first_in (alt e f) p s h =
    ⊎_elim (λ g. in_left p (size e) (size f) s (first_in e p s g)) (λ g. in_right p (size e) (size f) s (first_in f (p + size e) s g))
    (has_union _ _ s h)
first_in (seq e f) p s h =
    ⊎_elim (λ g. in_left p (size e) (size f) s (first_in e p s g))
    (λ g. in_right p (size e) (size f) s (first_in f (p + size e) s (has_when _ _ s g).1)) (has_union _ _ s h)
first_in (star e) p s h = first_in e p s h
first_in (plus e) p s h = first_in e p s h
first_in (opt e) p s h = first_in e p s h

pub last_in : (e : Expr) (p s : ℕ) → Has (last e p) s → In p (size e) s
unfolding last size
last_in (event a) p s h = let z = has_pow p s h in record { low = omega arith; high = omega arith }
last_in one p s h = absurd (empty_has_none s h)
last_in nought p s h = absurd (empty_has_none s h)
last_in (alt e f) p s h =
    ⊎_elim (λ g. in_left p (size e) (size f) s (last_in e p s g)) (λ g. in_right p (size e) (size f) s (last_in f (p + size e) s g))
    (has_union _ _ s h)
last_in (seq e f) p s h =
    ⊎_elim (λ g. in_left p (size e) (size f) s (last_in e p s (has_when (nullable f) (last e p) s g).1))
    (λ g. in_right p (size e) (size f) s (last_in f (p + size e) s g)) (has_union (when (nullable f) (last e p)) (last f (p + size e)) s h)
last_in (star e) p s h = last_in e p s h
last_in (plus e) p s h = last_in e p s h
last_in (opt e) p s h = last_in e p s h

pub named_in : (e : Expr) (p a s : ℕ) → Has (named e p a) s → In p (size e) s
unfolding named size
named_in (event b) p a s h = let z = has_pow p s (has_when _ _ s h).1 in record { low = omega arith; high = omega arith }
named_in one p a s h = absurd (empty_has_none s h)
named_in nought p a s h = absurd (empty_has_none s h)
named_in (alt e f) p a s h =
    ⊎_elim (λ g. in_left p (size e) (size f) s (named_in e p a s g)) (λ g. in_right p (size e) (size f) s (named_in f (p + size e) a s g))
    (has_union _ _ s h)
named_in (seq e f) p a s h =
    ⊎_elim (λ g. in_left p (size e) (size f) s (named_in e p a s g)) (λ g. in_right p (size e) (size f) s (named_in f (p + size e) a s g))
    (has_union _ _ s h)
named_in (star e) p a s h = named_in e p a s h
named_in (plus e) p a s h = named_in e p a s h
named_in (opt e) p a s h = named_in e p a s h

-- where follow comes from
pub follow_from : (e : Expr) (p s t : ℕ) → Has (follow e p s) t → In p (size e) s
unfolding follow size
follow_from (event a) p s t h = absurd (empty_has_none t h)
follow_from one p s t h = absurd (empty_has_none t h)
follow_from nought p s t h = absurd (empty_has_none t h)
follow_from (alt e f) p s t h =
    ⊎_elim (λ g. in_left p (size e) (size f) s (follow_from e p s t g)) (λ g. in_right p (size e) (size f) s (follow_from f (p + size e) s t g))
    (has_union _ _ t h)
follow_from (seq e f) p s t h =
    ⊎_elim
    (λ k.
    ⊎_elim (λ g. in_left p (size e) (size f) s (follow_from e p s t g)) (λ g. in_right p (size e) (size f) s (follow_from f (p + size e) s t g))
    (has_union _ _ t k))
    (λ g. in_left p (size e) (size f) s (last_in e p s (has_linked _ s _ t g).0))
    (has_union _ _ t h)
follow_from (star e) p s t h = ⊎_elim (λ g. follow_from e p s t g) (λ g. last_in e p s (has_linked _ s _ t g).0) (has_union _ _ t h)
follow_from (plus e) p s t h = ⊎_elim (λ g. follow_from e p s t g) (λ g. last_in e p s (has_linked _ s _ t g).0) (has_union _ _ t h)
follow_from (opt e) p s t h = follow_from e p s t h

-- and where it goes
pub follow_in : (e : Expr) (p s t : ℕ) → Has (follow e p s) t → In p (size e) t
unfolding follow size
follow_in (event a) p s t h = absurd (empty_has_none t h)
follow_in one p s t h = absurd (empty_has_none t h)
follow_in nought p s t h = absurd (empty_has_none t h)
follow_in (alt e f) p s t h =
    ⊎_elim (λ g. in_left p (size e) (size f) t (follow_in e p s t g)) (λ g. in_right p (size e) (size f) t (follow_in f (p + size e) s t g))
    (has_union _ _ t h)
follow_in (seq e f) p s t h =
    ⊎_elim
    (λ k.
    ⊎_elim (λ g. in_left p (size e) (size f) t (follow_in e p s t g)) (λ g. in_right p (size e) (size f) t (follow_in f (p + size e) s t g))
    (has_union _ _ t k))
    (λ g. in_right p (size e) (size f) t (first_in f (p + size e) t (has_linked _ s _ t g).1))
    (has_union _ _ t h)
follow_in (star e) p s t h = ⊎_elim (λ g. follow_in e p s t g) (λ g. first_in e p t (has_linked _ s _ t g).1) (has_union _ _ t h)
follow_in (plus e) p s t h = ⊎_elim (λ g. follow_in e p s t g) (λ g. first_in e p t (has_linked _ s _ t g).1) (has_union _ _ t h)
follow_in (opt e) p s t h = follow_in e p s t h
