-- The rows that the readers lead to are those of the two position automata, side by side.
use mathlib.Core.Path.{◌≡◌, ap, ap₂, ◌∙◌}
use mathlib.Core.Logic.{⊎_elim}
use mathlib.Core.List.{List}
use Prim.Native.Nat.{ℕ, suc, ◌+◌, ◌*◌, ◌/◌, ◌%◌, ◌^◌, ◌≤◌, ◌<◌}
use native.Mathlib.Omega.{arith}
use lib.ListN.{get_or}
use lib.Bits.{bit_or, bit_and}
use Rattle.sets.specs.Sets.{Has}
use Rattle.expressions.specs.Expressions.{Expr}
use Rattle.expressions.specs.Positions.{size, first, linked, follow, named, next_of, row_of, finals_of, second, states, Together}
use Rattle.expressions.specs.Both.{Filled}
use Rattle.expressions.specs.declared.Tables.{Tables}
use Rattle.sets.proofs.Bits.{has_union}
use Rattle.sets.proofs.Inclusion.{has_left, has_right, members_ext}
use Rattle.expressions.proofs.Places.{In, has_linked, first_in, follow_in, named_in}
use Rattle.expressions.proofs.Glushkov.{has_and, and_has}

-- ---- what comes next by one letter, of both

-- the next positions as the code has them: follow of both, then the first positions at each start
unfoldable pub next_both : Expr → Expr → ℕ → ℕ
next_both e f s =
    bit_or (bit_or (bit_or (follow e 1 s) (follow f (suc (second e)) s)) (linked 1 s (first e 1)))
    (linked (2 ^ second e) s (first f (suc (second e))))

unfoldable pub named_both : Expr → Expr → ℕ → ℕ
named_both e f a = bit_or (named e 1 a) (named f (suc (second e)) a)

module _ (e f : Expr) (s a : ℕ) where
  -- what comes next in the first and in the second, and what may begin each at its start
  abbrev next_one : ℕ
  next_one = follow e 1 s

  abbrev next_two : ℕ
  next_two = follow f (suc (second e)) s

  abbrev begin_one : ℕ
  begin_one = linked 1 s (first e 1)

  abbrev begin_two : ℕ
  begin_two = linked (2 ^ second e) s (first f (suc (second e)))

  abbrev all_next : ℕ
  all_next = bit_or (bit_or (bit_or next_one next_two) begin_one) begin_two

  -- what carries the letter
  abbrev by_one : ℕ
  by_one = named e 1 a

  abbrev by_two : ℕ
  by_two = named f (suc (second e)) a

  each_next : {P : Type 0} (t : ℕ) → Has all_next t → (Has next_one t → P) → (Has next_two t → P) → (Has begin_one t → P) → (Has begin_two t → P) → P
  each_next t h p q r u =
      ⊎_elim (λ x. ⊎_elim (λ y. ⊎_elim p q (has_union next_one next_two t y)) r (has_union (bit_or next_one next_two) begin_one t x)) u
      (has_union (bit_or (bit_or next_one next_two) begin_one) begin_two t h)

  -- at a position of the first, what comes next is the first's
  next_first : (t : ℕ) → In 1 (size e) t → Has all_next t → Has (bit_or begin_one next_one) t
  next_first t i h =
      each_next t h (λ x. has_right begin_one next_one x) (λ x. let j = follow_in f (suc (second e)) s t x in absurd (omega arith))
      (λ x. has_left begin_one next_one x)
      (λ x. let j = first_in f (suc (second e)) t (has_linked (2 ^ second e) s (first f (suc (second e))) t x).1 in absurd (omega arith))

  next_second : (t : ℕ) → In (suc (second e)) (size f) t → Has all_next t → Has (bit_or begin_two next_two) t
  next_second t i h =
      each_next t h (λ x. let j = follow_in e 1 s t x in absurd (omega arith)) (λ x. has_right begin_two next_two x)
      (λ x. let j = first_in e 1 t (has_linked 1 s (first e 1) t x).1 in absurd (omega arith)) (λ x. has_left begin_two next_two x)

  from_both : (t : ℕ) → Has (bit_and (next_both e f s) (named_both e f a)) t → Has (bit_or (row_of e 0 s a) (row_of f (second e) s a)) t
  unfolding next_both named_both row_of next_of
  from_both t h =
      let k = has_and all_next (bit_or by_one by_two) t h in
      let one = bit_and (bit_or begin_one next_one) by_one in
      let two = bit_and (bit_or begin_two next_two) by_two in
      ⊎_elim
      (λ n. has_left one two (and_has _ _ t (next_first t (named_in e 1 a t n) k.0) n))
      (λ n. has_right one two (and_has _ _ t (next_second t (named_in f (suc (second e)) a t n) k.0) n))
      (has_union by_one by_two t k.1)

  to_both : (t : ℕ) → Has (bit_or (row_of e 0 s a) (row_of f (second e) s a)) t → Has (bit_and (next_both e f s) (named_both e f a)) t
  unfolding next_both named_both row_of next_of
  to_both t h =
      ⊎_elim one two (has_union (bit_and (bit_or begin_one next_one) by_one) (bit_and (bit_or begin_two next_two) by_two) t h)
    where
      begun : ℕ
      begun = bit_or (bit_or next_one next_two) begin_one

      one : Has (bit_and (bit_or begin_one next_one) by_one) t → Has (bit_and all_next (bit_or by_one by_two)) t
      one g =
          let k = has_and (bit_or begin_one next_one) by_one t g in
          let in_begun : Has begun t =
          ⊎_elim (λ x. has_right (bit_or next_one next_two) begin_one x)
          (λ x. has_left (bit_or next_one next_two) begin_one (has_left next_one next_two x)) (has_union begin_one next_one t k.0)
          in
          and_has _ _ t (has_left begun begin_two in_begun) (has_left by_one by_two k.1)

      two : Has (bit_and (bit_or begin_two next_two) by_two) t → Has (bit_and all_next (bit_or by_one by_two)) t
      two g =
          let k = has_and (bit_or begin_two next_two) by_two t g in
          let in_all : Has all_next t =
          ⊎_elim (λ x. has_right begun begin_two x)
          (λ x. has_left begun begin_two (has_left (bit_or next_one next_two) begin_one (has_right next_one next_two x)))
          (has_union begin_two next_two t k.0)
          in
          and_has _ _ t in_all (has_right by_one by_two k.1)

  pub rows_both : bit_and (next_both e f s) (named_both e f a) ≡ bit_or (row_of e 0 s a) (row_of f (second e) s a)
  rows_both = members_ext _ _ from_both to_both

-- the filled rows are those of the two automata
pub filled_together : (e f : Expr) (t : Tables) (rows rows' : List ℕ) (finals : ℕ) → states e f ≤ 64 → Filled (states e f * 32) t rows rows'
    → ((s : ℕ) → s < 64 → get_or t.follow s 0 ≡ next_both e f s) → ((a : ℕ) → a < 32 → get_or t.named a 0 ≡ named_both e f a)
    → finals ≡ bit_or (finals_of e 0) (finals_of f (second e)) → Together e f rows' finals
filled_together e f t rows rows' finals few h fl nm fin =
    record {
      row =
          λ s a l b. h.entry (s * 32 + a) (omega arith)
          ∙ ap₂ bit_and (ap (λ (z : ℕ). get_or t.follow z 0) (quot s a b) ∙ fl s (omega arith)) (ap (λ (z : ℕ). get_or t.named z 0) (rem s a b) ∙ nm a b)
          ∙ rows_both e f s a;
      final = fin;
    }
  where
    quot : (s a : ℕ) → a < 32 → (s * 32 + a) / 32 ≡ s
    quot s a b = omega arith

    rem : (s a : ℕ) → a < 32 → (s * 32 + a) % 32 ≡ a
    rem s a b = omega arith
