-- A rule at every number below a bound, by one test that is computed; and lists of bytes compared by a test. Assumes nothing.
use mathlib.Core.Path.{◌≡◌, refl}
use mathlib.Core.Bool.{Bool, true, false, ◌&&◌}
use mathlib.Core.List.{List, [], ◌∷◌}
use Prim.Native.Nat.{ℕ, zero, suc, ◌<◌}
use native.Mathlib.Decide.{dec_lt}
use native.Mathlib.Omega.{arith}
use lib.Dec.{T, eqb, eqb→eq, eqb_refl}

pub both : (a b : Bool) → T (a && b) → T a × T b
both true true t = (tt, tt)
both true false t = absurd t
both false b t = absurd t

-- the test holds at each number below n
abbrev pub every : (ℕ → Bool) → ℕ → Bool
every f zero = true
every f (suc n) = f n && every f n

pub every_at : (f : ℕ → Bool) (n : ℕ) → T (every f n) → (i : ℕ) → i < n → T (f i)
every_at f zero t i h = absurd (omega arith)
every_at f (suc n) t i h =
    elim (dec_lt i n) [
      | yes l ↦ every_at f n (both (f n) (every f n) t).1 i l
      | no m ↦ let e : i ≡ n = omega arith in rw e (both (f n) (every f n) t).0
    ]

-- two lists of bytes are the same
abbrev pub same : List ℕ → List ℕ → Bool
same [] [] = true
same [] (y ∷ ys) = false
same (x ∷ xs) [] = false
same (x ∷ xs) (y ∷ ys) = eqb x y && same xs ys

pub same_equal : (xs ys : List ℕ) → T (same xs ys) → xs ≡ ys
same_equal [] [] t = refl
same_equal [] (y ∷ ys) t = absurd t
same_equal (x ∷ xs) [] t = absurd t
same_equal (x ∷ xs) (y ∷ ys) t =
    let p = both (eqb x y) (same xs ys) t in
    let e : x ≡ y = eqb→eq x y p.0 in
    let r : xs ≡ ys = same_equal xs ys p.1 in
    cc

pub same_self : (xs : List ℕ) → T (same xs xs)
same_self [] = tt
same_self (x ∷ xs) = and (eqb x x) (same xs xs) (eqb_refl x) (same_self xs)
  where
    and : (a b : Bool) → T a → T b → T (a && b)
    and true true s t = tt
    and true false s t = absurd t
    and false b s t = absurd s
