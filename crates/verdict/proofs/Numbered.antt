-- By which numbers a verdict can refuse: one test, tests in order, a test of each value. Assumes nothing.
use mathlib.Core.Path.{◌≡◌, refl}
use mathlib.Core.Bool.{Bool, true, false, ◌&&◌, and-eq-true_iff}
use mathlib.Core.List.{List, [], ◌∷◌, map, Memᴰ}
use Prim.Native.Nat.{ℕ, ◌≤◌}
use lib.Dec.{leb}
use borrow.Author.Tests.{leb-true}
use Rattle.verdict.specs.Verdict.{Verdict}
use Rattle.verdict.specs.Verdict.Verdict.{Fine, Against}
use Rattle.verdict.specs.Tests.{need, in_order, each, Among}
use Rattle.verdict.proofs.Ordered.{apart, one_number}

-- each of the verdicts refuses only by these numbers
pub data AllAmong (numbers : List ℕ) : List Verdict → Type 0 where
  none : AllAmong numbers []
  more : {v : Verdict} {tests : List Verdict} → Among numbers v → AllAmong numbers tests → AllAmong numbers (v ∷ tests)

module _ (numbers : List ℕ) where
  pub among_fine : Among numbers Fine
  among_fine = record { among = λ w e. apart refl e }

  pub among_need : (b : Bool) (w : ℕ) → Memᴰ w numbers → Among numbers (need b w)
  unfolding need
  among_need true w m = among_fine
  among_need false w m = record { among = λ u e. let z : w ≡ u = one_number {v = Against w} refl e in rw z at m }

  pub among_order : {tests : List Verdict} → AllAmong numbers tests → Among numbers (in_order tests)
  unfolding in_order
  among_order none = among_fine
  among_order (more {v = Fine} h hs) = among_order hs
  among_order (more {v = Against w} h hs) = h

  pub among_each : (test : ℕ → Verdict) → ((x : ℕ) → Among numbers (test x)) → (xs : List ℕ) → Among numbers (each test xs)
  unfolding each
  among_each test f xs = among_order (all xs)
    where
      all : (xs : List ℕ) → AllAmong numbers (map test xs)
      all [] = none
      all (x ∷ xs) = more (f x) (all xs)

-- each of the numbers is at least so large
abbrev pub all_from : ℕ → List ℕ → Bool
all_from least [] = true
all_from least (x ∷ xs) = leb least x && all_from least xs

from_member : (least : ℕ) {w : ℕ} (numbers : List ℕ) → all_from least numbers ≡ true → Memᴰ w numbers → least ≤ w
from_member least [] e m = elim m [ ]
from_member least (x ∷ xs) e (Memᴰ.head d) = rw d (leb-true _ _ ((and-eq-true_iff (leb least x) (all_from least xs)).0 e).0)
from_member least (x ∷ xs) e (Memᴰ.tail m) = from_member least xs ((and-eq-true_iff (leb least x) (all_from least xs)).0 e).1 m

-- so is every number that the verdict refuses by
pub among_from : {numbers : List ℕ} {v : Verdict} {w : ℕ} (least : ℕ) → all_from least numbers ≡ true → Among numbers v → v ≡ Against w → least ≤ w
among_from {numbers} {v} {w} least e m r = from_member least numbers e (m.among w r)
