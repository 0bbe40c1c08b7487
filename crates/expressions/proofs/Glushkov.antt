-- The position automaton accepts exactly the language of its expression.
use mathlib.Core.Path.{◌≡◌, sym, subst}
use mathlib.Core.Logic.{◌↔◌, ⊎_elim}
use mathlib.Core.Bool.{true}
use mathlib.Core.List.{List, [], ◌∷◌}
use Prim.Native.Nat.{ℕ, suc, ◌+◌, ◌*◌, ◌^◌, ◌≤◌, ◌<◌}
use native.Mathlib.Omega.{arith}
use lib.ListN.{get_or}
use lib.Bits.{bit_or, bit_and}
use Rattle.sets.specs.Sets.{Has}
use Rattle.expressions.specs.Expressions.{Expr, Takes}
use Rattle.expressions.specs.Positions.{size, nullable, when, first, last, linked, follow, named, next_of, row_of, finals_of, second, Together}
use Rattle.sets.proofs.Bits.{bit_of_and, has_union}
use Rattle.sets.proofs.Inclusion.{has_left, has_right}
use Rattle.expressions.proofs.After.{After, after_in, nullable_takes, takes_nullable, last_after, after_last, first_goes, goes_first, follow_goes, goes_follow}
use Rattle.expressions.proofs.Places.{In, has_when, when_has, linked_has, has_linked, pow_has, has_pow, last_in, named_in, follow_from}

-- every letter of a word is below 32
abbrev pub Letters : List ℕ → Type 0
Letters [] = Unit {0}
Letters (a ∷ w) = (a < 32) × Letters w

-- the word is accepted from state s (of a pattern with 32 letters)
abbrev pub Accepts : List ℕ → ℕ → List ℕ → ℕ → Type 0
Accepts rows finals [] s = Has finals s
Accepts rows finals (a ∷ w) s = (t : ℕ) × Has (get_or rows (s * 32 + a) 0) t × Accepts rows finals w t

pub has_and : (a b s : ℕ) → Has (bit_and a b) s → Has a s × Has b s
has_and a b s h = (omega (arith, bit_of_and a b s), omega (arith, bit_of_and a b s))

pub and_has : (a b s : ℕ) → Has a s → Has b s → Has (bit_and a b) s
and_has a b s h g = omega (arith, bit_of_and a b s)

-- ---- what the rows of one expression say

module _ (e : Expr) (b : ℕ) where
  pub start_row : (a t : ℕ) → Has (row_of e b b a) t ↔ (Has (first e (suc b)) t × Has (named e (suc b) a) t)
  unfolding row_of next_of
  start_row a t = (to, λ h. and_has _ _ t (has_left _ _ (linked_has (2 ^ b) b _ t (pow_has b) h.0)) h.1)
    where
      to : Has (bit_and (bit_or (linked (2 ^ b) b (first e (suc b))) (follow e (suc b) b)) (named e (suc b) a)) t
          → Has (first e (suc b)) t × Has (named e (suc b) a) t
      to h =
          let k = has_and _ _ t h in (
            ⊎_elim
                (λ g. (has_linked (2 ^ b) b (first e (suc b)) t g).1)
                (λ g. let i = follow_from e (suc b) b t g in absurd (omega arith))
                (has_union (linked (2 ^ b) b (first e (suc b))) (follow e (suc b) b) t k.0),
            k.1,
          )

  pub other_row : (s a t : ℕ) → b < s → Has (row_of e b s a) t ↔ (Has (follow e (suc b) s) t × Has (named e (suc b) a) t)
  unfolding row_of next_of
  other_row s a t l = (to, λ h. and_has _ _ t (has_right (linked (2 ^ b) s (first e (suc b))) _ h.0) h.1)
    where
      to : Has (bit_and (bit_or (linked (2 ^ b) s (first e (suc b))) (follow e (suc b) s)) (named e (suc b) a)) t
          → Has (follow e (suc b) s) t × Has (named e (suc b) a) t
      to h =
          let k = has_and _ _ t h in (
            ⊎_elim
                (λ g. let z = has_pow b s (has_linked (2 ^ b) s (first e (suc b)) t g).0 in absurd (omega arith))
                (λ g. g)
                (has_union (linked (2 ^ b) s (first e (suc b))) (follow e (suc b) s) t k.0),
            k.1,
          )

  -- rows lie with the states of the expression, from one of them to one of its positions
  pub row_from : (s a t : ℕ) → Has (row_of e b s a) t → (b ≤ s) × (s ≤ b + size e)
  unfolding row_of next_of
  row_from s a t h =
      ⊎_elim
      (λ g. let z = has_pow b s (has_linked (2 ^ b) s (first e (suc b)) t g).0 in (omega arith, omega arith))
      (λ g. let i = follow_from e (suc b) s t g in (omega arith, omega arith))
      (has_union (linked (2 ^ b) s (first e (suc b))) (follow e (suc b) s) t (has_and _ _ t h).0)

  pub row_to : (s a t : ℕ) → Has (row_of e b s a) t → In (suc b) (size e) t
  unfolding row_of
  row_to s a t h = named_in e (suc b) a t (has_and (next_of e b s) (named e (suc b) a) t h).1

  pub start_final : Has (finals_of e b) b ↔ (nullable e ≡ true)
  unfolding finals_of
  start_final = (
    λ h. ⊎_elim (λ g. let i = last_in e (suc b) b g in absurd (omega arith)) (λ g. (has_when (nullable e) (2 ^ b) b g).0)
        (has_union (last e (suc b)) (when (nullable e) (2 ^ b)) b h),
    λ h. has_right (last e (suc b)) _ (when_has (2 ^ b) b h (pow_has b)),
  )

  pub other_final : (s : ℕ) → b < s → Has (finals_of e b) s ↔ Has (last e (suc b)) s
  unfolding finals_of
  other_final s l = (
    λ h. ⊎_elim (λ g. g) (λ g. let z = has_pow b s (has_when (nullable e) (2 ^ b) s g).1 in absurd (omega arith))
        (has_union (last e (suc b)) (when (nullable e) (2 ^ b)) s h),
    λ h. has_left _ _ h,
  )

  pub final_in : (s : ℕ) → Has (finals_of e b) s → (b ≤ s) × (s ≤ b + size e)
  unfolding finals_of
  final_in s h =
      ⊎_elim
      (λ g. let i = last_in e (suc b) s g in (omega arith, omega arith))
      (λ g. let z = has_pow b s (has_when (nullable e) (2 ^ b) s g).1 in (omega arith, omega arith))
      (has_union (last e (suc b)) (when (nullable e) (2 ^ b)) s h)

-- ---- a table that has them accepts the language

-- the table has the rows and the finals of e, at its states
record Holds (e : Expr) (b : ℕ) (rows : List ℕ) (finals : ℕ) : Type 0 where
  move : (s a t : ℕ) → b ≤ s → s ≤ b + size e → a < 32 → Has (get_or rows (s * 32 + a) 0) t ↔ Has (row_of e b s a) t
  end : (s : ℕ) → b ≤ s → s ≤ b + size e → Has finals s ↔ Has (finals_of e b) s

module _ (e : Expr) (b : ℕ) (rows : List ℕ) (finals : ℕ) (k : Holds e b rows finals) where
  -- from a position
  after_accepts : (w : List ℕ) → Letters w → (s : ℕ) → In (suc b) (size e) s → Accepts rows finals w s ↔ After e (suc b) s w
  after_accepts [] l s i = (
    λ h. last_after e (suc b) s ((other_final e b s (omega arith)).0 ((k.end s (omega arith) (omega arith)).0 h)),
    λ h. (k.end s (omega arith) (omega arith)).1 ((other_final e b s (omega arith)).1 (after_last e (suc b) s h)),
  )
  after_accepts (a ∷ w) l s i = (
    λ h.
        let r = (k.move s a h.0 (omega arith) (omega arith) l.0).0 h.1 in
        let q = (other_row e b s a h.0 (omega arith)).0 r in
        goes_follow e (suc b) s a w (record { to = h.0; member = q.0; label = q.1; after = (after_accepts w l.1 h.0 (row_to e b s a h.0 r)).0 h.2 }),
    λ h.
        let g = follow_goes e (suc b) s a w h in (
          g.to,
          (k.move s a g.to (omega arith) (omega arith) l.0).1 ((other_row e b s a g.to (omega arith)).1 (g.member, g.label)),
          (after_accepts w l.1 g.to (after_in e (suc b) g.to w g.after)).1 g.after,
        ),
  )

  -- from the start
  start_accepts : (w : List ℕ) → Letters w → Accepts rows finals w b ↔ Takes e w
  start_accepts [] l = (
    λ h. nullable_takes e ((start_final e b).0 ((k.end b (omega arith) (omega arith)).0 h)),
    λ h. (k.end b (omega arith) (omega arith)).1 ((start_final e b).1 (takes_nullable e h)),
  )
  start_accepts (a ∷ w) l = (
    λ h.
        let r = (k.move b a h.0 (omega arith) (omega arith) l.0).0 h.1 in
        let q = (start_row e b a h.0).0 r in
        goes_first e (suc b) a w (record { to = h.0; member = q.0; label = q.1; after = (after_accepts w l.1 h.0 (row_to e b b a h.0 r)).0 h.2 }),
    λ h.
        let g = first_goes e (suc b) a w h in (
          g.to,
          (k.move b a g.to (omega arith) (omega arith) l.0).1 ((start_row e b a g.to).1 (g.member, g.label)),
          (after_accepts w l.1 g.to (after_in e (suc b) g.to w g.after)).1 g.after,
        ),
  )

-- ---- two expressions put together

module _ (e f : Expr) (rows : List ℕ) (finals : ℕ) (k : Together e f rows finals) where
  holds_first : Holds e 0 rows finals
  holds_first = record { move = move; end = end }
    where
      move : (s a t : ℕ) → 0 ≤ s → s ≤ 0 + size e → a < 32 → Has (get_or rows (s * 32 + a) 0) t ↔ Has (row_of e 0 s a) t
      move s a t lo hi l =
          let q = k.row s a (omega arith) l in (
            λ h. ⊎_elim (λ g. g) (λ g. let z = row_from f (second e) s a t g in absurd (omega arith))
                (has_union (row_of e 0 s a) (row_of f (second e) s a) t (subst (λ (x : ℕ). Has x t) q h)),
            λ h. subst (λ (x : ℕ). Has x t) (sym q) (has_left _ _ h),
          )

      end : (s : ℕ) → 0 ≤ s → s ≤ 0 + size e → Has finals s ↔ Has (finals_of e 0) s
      end s lo hi = (
        λ h. ⊎_elim (λ g. g) (λ g. let z = final_in f (second e) s g in absurd (omega arith))
            (has_union (finals_of e 0) (finals_of f (second e)) s (subst (λ (x : ℕ). Has x s) k.final h)),
        λ h. subst (λ (x : ℕ). Has x s) (sym k.final) (has_left _ _ h),
      )

  holds_second : Holds f (second e) rows finals
  holds_second = record { move = move; end = end }
    where
      move : (s a t : ℕ) → second e ≤ s → s ≤ second e + size f → a < 32 → Has (get_or rows (s * 32 + a) 0) t ↔ Has (row_of f (second e) s a) t
      move s a t lo hi l =
          let q = k.row s a (omega arith) l in (
            λ h. ⊎_elim (λ g. let z = row_from e 0 s a t g in absurd (omega arith)) (λ g. g)
                (has_union (row_of e 0 s a) (row_of f (second e) s a) t (subst (λ (x : ℕ). Has x t) q h)),
            λ h. subst (λ (x : ℕ). Has x t) (sym q) (has_right (row_of e 0 s a) _ h),
          )

      end : (s : ℕ) → second e ≤ s → s ≤ second e + size f → Has finals s ↔ Has (finals_of f (second e)) s
      end s lo hi = (
        λ h. ⊎_elim (λ g. let z = final_in e 0 s g in absurd (omega arith)) (λ g. g)
            (has_union (finals_of e 0) (finals_of f (second e)) s (subst (λ (x : ℕ). Has x s) k.final h)),
        λ h. subst (λ (x : ℕ). Has x s) (sym k.final) (has_right (finals_of e 0) _ h),
      )

  -- each start accepts exactly the language of its expression
  pub first_language : (w : List ℕ) → Letters w → Accepts rows finals w 0 ↔ Takes e w
  first_language w l = start_accepts e 0 rows finals holds_first w l

  pub second_language : (w : List ℕ) → Letters w → Accepts rows finals w (second e) ↔ Takes f w
  second_language w l = start_accepts f (second e) rows finals holds_second w l
