-- The pattern that the call leaves is valid, and each of its starts accepts exactly the language of its text.
use mathlib.Core.Path.{◌≡◌, sym, ap, ◌∙◌, subst}
use mathlib.Core.Logic.{◌↔◌, ⊎_elim}
use mathlib.Core.Bool.{true}
use mathlib.Core.List.{List}
use Prim.Native.Nat.{ℕ, ◌+◌, ◌*◌, ◌/◌, ◌%◌, ◌^◌, ◌≤◌, ◌<◌}
use native.Mathlib.Omega.{arith}
use lib.ListN.{length, take, get_or}
use lib.Seq.{get_or-take, length-take-le}
use lib.Bits.{bit_or}
use lib.Pow.{pow-lt}
use Rattle.std.specs.Prelude.{Ok, Err}
use Rattle.sets.specs.Sets.{Good}
use Rattle.sets.proofs.Bits.{has_union}
use Rattle.sets.proofs.Goodness.{good_bits}
use Rattle.pattern.specs.Pattern.{Valid}
use Rattle.pattern.specs.Language.{accepts, Over}
use Rattle.expressions.specs.Expressions.{Expr, Takes}
use Rattle.expressions.specs.Positions.{row_of, finals_of, second, states}
use Rattle.expressions.specs.Answers.{Built, Answer, Expressed}
use Rattle.expressions.specs.Languages.{made_of, Patterned, Answered}
use Rattle.expressions.proofs.Places.{pow_has, has_pow}
use Rattle.expressions.proofs.Glushkov.{Accepts, row_to, final_in, first_language, second_language}
use Rattle.expressions.proofs.Paths.{over_letters, accepts_some}

-- ---- the masks of two expressions put together are sets of their states

pub rows_below : (e f : Expr) (s a : ℕ) → Good (states e f) (bit_or (row_of e 0 s a) (row_of f (second e) s a))
rows_below e f s a =
    (good_bits (states e f) _).1 (λ t l h.
    ⊎_elim
    (λ g. let i = row_to e 0 s a t g in omega (arith, i.high))
    (λ g. let i = row_to f (second e) s a t g in omega (arith, i.high))
    (has_union (row_of e 0 s a) (row_of f (second e) s a) t h))

pub finals_below : (e f : Expr) → Good (states e f) (bit_or (finals_of e 0) (finals_of f (second e)))
finals_below e f =
    (good_bits (states e f) _).1 (λ t l h.
    ⊎_elim
    (λ g. let i = final_in e 0 t g in omega (arith, i.1))
    (λ g. let i = final_in f (second e) t g in omega (arith, i.1))
    (has_union (finals_of e 0) (finals_of f (second e)) t h))

-- ---- the pattern of an answer

module _ {one two rows rows' : List ℕ} {n finals x y : ℕ} (b : Built one two rows rows' n finals x y) where
  pub at_least_two : 2 ≤ n
  at_least_two = omega (arith, b.count)

  rows_fit : n * 32 ≤ length rows'
  rows_fit = omega (arith, b.fits, b.long)

  cell_good : (i : ℕ) → i < n * 32 → Good n (get_or rows' i 0)
  cell_good i l =
      subst (λ (m : ℕ). Good m (get_or rows' i 0)) (sym b.count)
      (subst (λ (m : ℕ). Good (states b.left b.right) m) (sym at_row) (rows_below b.left b.right (i / 32) (i % 32)))
    where
      place : i / 32 * 32 + i % 32 ≡ i
      place = omega arith

      at_row : get_or rows' i 0 ≡ bit_or (row_of b.left 0 (i / 32) (i % 32)) (row_of b.right (second b.left) (i / 32) (i % 32))
      at_row = ap (λ (j : ℕ). get_or rows' j 0) (sym place) ∙ b.together.row (i / 32) (i % 32) (omega (arith, b.count)) (omega arith)

  pub made_valid : Valid (made_of n finals rows')
  made_valid =
      record {
        sized = record { some_state = omega (arith, at_least_two); states_fit = b.few; some_letter = omega arith; letters_fit = omega arith };
        tabled = long;
        finals_good =
            subst (λ (m : ℕ). Good m finals) (sym b.count)
            (subst (Good (states b.left b.right)) (sym b.together.final) (finals_below b.left b.right));
        rows_good = λ i l. let k : i < n * 32 = omega (arith, l, long) in subst (Good n) (sym (get_or-take (n * 32) rows' i 0 k)) (cell_good i k);
      }
    where
      long : length (take (n * 32) rows') ≡ n * 32
      long = length-take-le (n * 32) rows' rows_fit

  -- the set of one state accepts what the state accepts
  single_accepts : (s : ℕ) → s < n → (w : List ℕ) → Over 32 w → (accepts (made_of n finals rows') (2 ^ s) w ≡ true) ↔ Accepts rows' finals w s
  single_accepts s l w o = (
    λ e. let r = (accepts_some n finals rows' made_valid w o (2 ^ s)).0 e in subst (Accepts rows' finals w) (has_pow s r.0 r.2) r.3,
    λ h. (accepts_some n finals rows' made_valid w o (2 ^ s)).1 (s, l, pow_has s, h),
  )

  -- and what is accepted from the state is accepted from a start that is that set
  start_accepts : {z : ℕ} {T : Type 0} (s : ℕ) → s < n → z ≡ 2 ^ s → (w : List ℕ) → Over 32 w → Accepts rows' finals w s ↔ T
      → (accepts (made_of n finals rows') z w ≡ true) ↔ T
  start_accepts s l e w o t = let k = single_accepts s l w o in rw e (λ h. t.0 (k.0 h), λ h. k.1 (t.1 h))

  first_below : 0 < n
  first_below = omega (arith, at_least_two)

  second_below : second b.left < n
  second_below = omega (arith, b.count)

  start_good : {z : ℕ} (s : ℕ) → s < n → z ≡ 2 ^ s → Good n z
  start_good s l e = record { below = subst (λ (m : ℕ). m < 2 ^ n) (sym e) (pow-lt l) }

  pub patterned : Patterned one two rows' n finals x y
  patterned =
      record {
        valid = made_valid;
        two_starts = at_least_two;
        first_good = start_good 0 first_below b.first_start;
        second_good = start_good (second b.left) second_below b.second_start;
        first_speaks = record { tree = b.left; means = b.one_is.means; language = first };
        second_speaks = record { tree = b.right; means = b.two_is.means; language = other };
      }
    where
      first : (w : List ℕ) → Over 32 w → (accepts (made_of n finals rows') x w ≡ true) ↔ Takes b.left w
      first w o = start_accepts 0 first_below b.first_start w o (first_language b.left b.right rows' finals b.together w (over_letters o))

      other : (w : List ℕ) → Over 32 w → (accepts (made_of n finals rows') y w ≡ true) ↔ Takes b.right w
      other w o =
          start_accepts (second b.left) second_below b.second_start w o
          (second_language b.left b.right rows' finals b.together w (over_letters o))

-- what the call answers by the construction is what it promises
pub answered : (one two rows rows' : List ℕ) (r : Answer) → Expressed one two rows rows' r → Answered one two rows rows' r
answered one two rows rows' (Ok p) b = (b, patterned b)
answered one two rows rows' (Err f) b = (b, tt)
