-- Tests and the lines that they go by: one test, tests in order, lines of one number, the numbers. Assumes nothing.
use mathlib.Core.Path.{◌≡◌, refl, sym, ap, ◌∙◌}
use mathlib.Core.Logic.{◌↔◌, inl, inr}
use mathlib.Core.Bool.{Bool, true, not, ◌&&◌, and-eq-true_iff}
use mathlib.Core.List.{List, [], ◌∷◌, Memᴰ}
use Prim.Native.Nat.{ℕ}
use lib.Dec.{eqb}
use borrow.Author.Tests.{eqb-false, not-true}
use Rattle.verdict.specs.Verdict.{Verdict}
use Rattle.verdict.specs.Verdict.Verdict.{Fine, Against}
use Rattle.verdict.specs.Tests.{in_order, Among}
use Rattle.verdict.specs.Lines.{Lines, NoneApplies, Applies, GoesBy}
use Rattle.verdict.specs.Lines.Lines.{none, line}
use Rattle.verdict.proofs.Ordered.{apart, order_both, order_stop, order_next}

-- ---- the first line that applies is one

pub none_or_one : (lines : Lines) (w : ℕ) → NoneApplies lines → Applies lines w → ⊥
none_or_one none w p q = q
none_or_one (line u A rest) w (a, p) (inl (f, e)) = f a
none_or_one (line u A rest) w (a, p) (inr (b, q)) = none_or_one rest w p q

pub one_applies : (lines : Lines) (w u : ℕ) → Applies lines w → Applies lines u → w ≡ u
one_applies none w u p q = absurd p
one_applies (line x A rest) w u (inl (f, e)) (inl (g, d)) = e ∙ sym d
one_applies (line x A rest) w u (inl (f, e)) (inr (a, q)) = absurd (f a)
one_applies (line x A rest) w u (inr (a, p)) (inl (g, d)) = absurd (g a)
one_applies (line x A rest) w u (inr (a, p)) (inr (b, q)) = one_applies rest w u p q

-- so it is enough to know what follows from the verdict
pub goes_by : (lines : Lines) (v : Verdict) → (v ≡ Fine → NoneApplies lines) → ((w : ℕ) → v ≡ Against w → Applies lines w) → GoesBy lines v
goes_by lines Fine f g =
    record { fine = (f, λ p. refl); against = λ w. (g w, λ p. absurd (none_or_one lines w (f refl) p)) }
goes_by lines (Against u) f g =
    record { fine = (f, λ p. absurd (none_or_one lines u p (g u refl))); against = λ w. (g w, λ p. ap Against (one_applies lines u w (g u refl) p)) }

-- ---- one test

only : {w u : ℕ} → Memᴰ u (w ∷ []) → u ≡ w
only (Memᴰ.head e) = e
only (Memᴰ.tail m) = elim m [ ]

-- a test that refuses by one number, and has nothing against it exactly where A holds
pub one_line : {v : Verdict} {w : ℕ} {A : Type 0} → Among (w ∷ []) v → (v ≡ Fine) ↔ A → GoesBy (line w A none) v
one_line {v} {w} {A} among fine = goes_by _ v (λ e. (fine.0 e, tt)) (λ u e. inl (λ a. apart (fine.1 a) e, only (among.among u e)))

-- ---- tests in order

abbrev pub joined : Lines → Lines → Lines
joined none more = more
joined (line w A rest) more = line w A (joined rest more)

none_joined : (lines more : Lines) → NoneApplies lines → NoneApplies more → NoneApplies (joined lines more)
none_joined none more p q = q
none_joined (line w A rest) more (a, p) q = (a, none_joined rest more p q)

front_applies : (lines more : Lines) (w : ℕ) → Applies lines w → Applies (joined lines more) w
front_applies none more w p = absurd p
front_applies (line u A rest) more w (inl p) = inl p
front_applies (line u A rest) more w (inr (a, p)) = inr (a, front_applies rest more w p)

later_applies : (lines more : Lines) (w : ℕ) → NoneApplies lines → Applies more w → Applies (joined lines more) w
later_applies none more w p q = q
later_applies (line u A rest) more w (a, p) q = inr (a, later_applies rest more w p q)

-- no test, no line
pub no_lines : GoesBy none (in_order [])
unfolding in_order
no_lines = goes_by none Fine (λ e. tt) (λ w e. apart refl e)

-- a test in front of others: its lines in front of theirs
pub lines_then : {lines more : Lines} {v : Verdict} (tests : List Verdict) → GoesBy lines v → GoesBy more (in_order tests)
    → GoesBy (joined lines more) (in_order (v ∷ tests))
lines_then {lines} {more} {v} tests g h =
    goes_by _ _ (λ e. let (p, q) = (order_both v tests).0 e in none_joined lines more (g.fine.0 p) (h.fine.0 q)) (λ w e. against v g w e)
  where
    against : (v : Verdict) → GoesBy lines v → (w : ℕ) → in_order (v ∷ tests) ≡ Against w → Applies (joined lines more) w
    against Fine g w e = later_applies lines more w (g.fine.0 refl) ((h.against w).0 (sym (order_next Fine tests refl) ∙ e))
    against (Against u) g w e = front_applies lines more w ((g.against w).0 (sym (order_stop (Against u) tests refl) ∙ e))

-- ---- lines of one number

-- two lines of one number after one another are one line of it
pub same_number : {v : Verdict} {A B C : Type 0} (front : Lines) (w : ℕ) (rest : Lines) → (A × B) ↔ C
    → GoesBy (joined front (line w A (line w B rest))) v → GoesBy (joined front (line w C rest)) v
same_number {v} {A} {B} {C} front w rest c g = goes_by _ _ (λ e. holds front (g.fine.0 e)) (λ u e. applies front u ((g.against u).0 e))
  where
    holds : (front : Lines) → NoneApplies (joined front (line w A (line w B rest))) → NoneApplies (joined front (line w C rest))
    holds none (a, (b, p)) = (c.0 (a, b), p)
    holds (line x D more) (d, p) = (d, holds more p)

    applies : (front : Lines) (u : ℕ) → Applies (joined front (line w A (line w B rest))) u → Applies (joined front (line w C rest)) u
    applies none u (inl (f, e)) = inl (λ p. f (c.1 p).0, e)
    applies none u (inr (a, inl (f, e))) = inl (λ p. f (c.1 p).1, e)
    applies none u (inr (a, inr (b, p))) = inr (c.0 (a, b), p)
    applies (line x D more) u (inl p) = inl p
    applies (line x D more) u (inr (d, p)) = inr (d, applies more u p)

-- ---- the numbers of the lines

abbrev pub numbers_of : Lines → List ℕ
numbers_of none = []
numbers_of (line w A rest) = w ∷ numbers_of rest

applies_among : (lines : Lines) (w : ℕ) → Applies lines w → Memᴰ w (numbers_of lines)
applies_among none w p = absurd p
applies_among (line u A rest) w (inl (f, e)) = Memᴰ.head e
applies_among (line u A rest) w (inr (a, p)) = Memᴰ.tail (applies_among rest w p)

-- what goes by the lines refuses only by their numbers
pub lines_among : {lines : Lines} {v : Verdict} → GoesBy lines v → Among (numbers_of lines) v
lines_among {lines} g = record { among = λ w e. applies_among lines w ((g.against w).0 e) }

-- the number is none of these
abbrev pub lacks : ℕ → List ℕ → Bool
lacks w [] = true
lacks w (x ∷ xs) = not (eqb w x) && lacks w xs

not_first : (w x : ℕ) (xs : List ℕ) → lacks w (x ∷ xs) ≡ true → w ≡ x → ⊥
not_first w x xs e = eqb-false w x (not-true _ ((and-eq-true_iff (not (eqb w x)) (lacks w xs)).0 e).0)

not_later : (w x : ℕ) (xs : List ℕ) → lacks w (x ∷ xs) ≡ true → lacks w xs ≡ true
not_later w x xs e = ((and-eq-true_iff (not (eqb w x)) (lacks w xs)).0 e).1

lacking : (w : ℕ) (xs : List ℕ) → lacks w xs ≡ true → Memᴰ w xs → ⊥
lacking w [] e m = elim m [ ]
lacking w (x ∷ xs) e (Memᴰ.head d) = not_first w x xs e d
lacking w (x ∷ xs) e (Memᴰ.tail m) = lacking w xs (not_later w x xs e) m

-- a line that alone has its number is the first that applies exactly where no line before it applies and it does
pub applies_exactly : {A : Type 0} (front : Lines) (w : ℕ) (rest : Lines) → lacks w (numbers_of front) ≡ true → lacks w (numbers_of rest) ≡ true
    → Applies (joined front (line w A rest)) w ↔ (NoneApplies front × (A → ⊥))
applies_exactly {A} front w rest before after = (to front before, λ p. later_applies front (line w A rest) w p.0 (inl (p.1, refl)))
  where
    to : (front : Lines) → lacks w (numbers_of front) ≡ true → Applies (joined front (line w A rest)) w → NoneApplies front × (A → ⊥)
    to none e (inl (f, d)) = (tt, f)
    to none e (inr (a, p)) = absurd (lacking w (numbers_of rest) after (applies_among rest w p))
    to (line u B more) e (inl (f, d)) = absurd (not_first w u (numbers_of more) e d)
    to (line u B more) e (inr (b, p)) = let (q, f) = to more (not_later w u (numbers_of more) e) p in ((b, q), f)
