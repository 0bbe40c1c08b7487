-- A line put word after word: the first, each later one with a space in front, and the newline; and how long a line of numbers can be. Assumes nothing.
use mathlib.Core.Path.{◌≡◌, refl, sym, ap, ◌∙◌}
use mathlib.Core.List.{List, [], ◌∷◌, ◌++◌, map, append_assoc, append-nil}
use Prim.Native.Nat.{ℕ, ◌+◌, ◌*◌, ◌≤◌, ◌<◌}
use native.Mathlib.Numerals.{add-one}
use native.Mathlib.Omega.{arith}
use lib.ListN.{length, drop, get_or, length-append, drop_of_length-le}
use lib.Seq.{drop-cons}
use Rattle.lent.specs.declared.Page.{Page}
use Rattle.lent.specs.Page.{Puts}
use Rattle.lent.proofs.Filling.{puts_then, Splits}
use Rattle.text.specs.Text.{word, digits, decimal, spaced, joined, line, refusal_text}
use Rattle.text.proofs.Decimal.{decimal_short}

-- ---- lengths

pub spaced_length : (w : List ℕ) (ws : List (List ℕ)) → length (spaced (w ∷ ws)) ≡ 1 + length w + length (spaced ws)
unfolding spaced
spaced_length w ws = length-append (word " " ++ w) (spaced ws) ∙ omega arith

pub joined_length : (w : List ℕ) (ws : List (List ℕ)) → length (joined (w ∷ ws)) ≡ length w + length (spaced ws)
unfolding joined
joined_length w ws = length-append w (spaced ws)

pub line_length : (ws : List (List ℕ)) → length (line ws) ≡ length (joined ws) + 1
unfolding line
line_length ws = length-append (joined ws) (word "\n")

pub whole_length : (w : List ℕ) (ws : List (List ℕ)) → length (line (w ∷ ws)) ≡ length w + length (spaced ws) + 1
whole_length w ws = omega (arith, line_length (w ∷ ws), joined_length w ws)

numbers_short : (numbers : List ℕ) → length (spaced (map decimal numbers)) ≤ 21 * length numbers
unfolding spaced
numbers_short [] = omega arith
numbers_short (v ∷ numbers) = omega (arith, spaced_length (decimal v) (map decimal numbers), decimal_short v, numbers_short numbers)

-- a line of a name and some numbers, each of at most twenty digits
pub head_short : (name numbers : List ℕ) → length (line (name ∷ map decimal numbers)) ≤ length name + 21 * length numbers + 1
head_short name numbers = omega (arith, whole_length name (map decimal numbers), numbers_short numbers)

pub refusal_short : (number place : ℕ) → length (refusal_text number place) ≤ 50
unfolding refusal_text
refusal_short number place = head_short (word "REFUSED") (number ∷ place ∷ [])

-- ---- words from a place on, each with a space in front

pub spaced_none : {A : Type 0} (f : A → List ℕ) (s : List A) (i : ℕ) → length s ≤ i → spaced (map f (drop i s)) ≡ []
unfolding spaced
spaced_none f s i h = rw (drop_of_length-le s h)

pub spaced_step : {A : Type 0} (f : A → List ℕ) (s : List A) (i : ℕ) {x : A} → i < length s → x ≡ get_or s i x
    → Splits (spaced (map f (drop i s))) (word " " ++ f x) (spaced (map f (drop (i + 1) s)))
unfolding spaced
spaced_step f s i {x} h e = record { parts = rw (drop-cons s i x h, ← e, add-one) }

-- ---- words with single spaces between them: the first, and the others

pub joined_none : {A : Type 0} (f : A → List ℕ) (s : List A) → length s ≡ 0 → [] ≡ joined (map f s)
unfolding joined
joined_none f [] h = refl
joined_none f (x ∷ s) h = absurd (omega arith)

pub joined_some : {A : Type 0} (f : A → List ℕ) {s : List A} {x : A} {rest : List A} → s ≡ x ∷ rest → Splits (joined (map f s)) (f x) (spaced (map f rest))
unfolding joined
joined_some f e = record { parts = rw e }

pub line_parts : (ws : List (List ℕ)) → Splits (line ws) (joined ws) (word "\n")
unfolding line
line_parts ws = record { parts = refl }

-- ---- one word more

spaced_more : (ws : List (List ℕ)) (v : List ℕ) → spaced ws ++ (word " " ++ v) ≡ spaced (ws ++ (v ∷ []))
unfolding spaced
spaced_more [] v = sym (append-nil (word " " ++ v))
spaced_more (w ∷ ws) v = append_assoc (word " " ++ w) (spaced ws) (word " " ++ v) ∙ ap (λ (l : List ℕ). (word " " ++ w) ++ l) (spaced_more ws v)

pub joined_one : (w : List ℕ) → w ≡ joined (w ∷ [])
unfolding joined spaced
joined_one w = sym (append-nil w)

pub joined_more : (w : List ℕ) (ws : List (List ℕ)) (v : List ℕ) → joined (w ∷ ws) ++ (word " " ++ v) ≡ joined (w ∷ (ws ++ (v ∷ [])))
unfolding joined
joined_more w ws v = append_assoc w (spaced ws) (word " " ++ v) ∙ ap (λ (l : List ℕ). w ++ l) (spaced_more ws v)

-- ---- the same, put on a page

pub puts_line : {old : Page} {w : List ℕ} (ws : List (List ℕ)) {first last new : Page}
    → Puts old w first → Puts first (spaced ws) last → Puts last (word "\n") new → Puts old (line (w ∷ ws)) new
unfolding line joined
puts_line ws p q r = puts_then (puts_then p q) r

-- ---- as they look

line_of_none : line [] ≡ word "\n"
unfolding line joined
line_of_none = refl

line_of_three : line (word "SAME" ∷ decimal 3 ∷ decimal 10 ∷ []) ≡ word "SAME 3 10\n"
unfolding line joined spaced decimal digits
line_of_three = refl
