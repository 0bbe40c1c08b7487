-- What a host lends, and values laid over it. The laws that say what each word means stand in proofs/.
--   Slice              a slice of numbers lent for writing, as a contract sees it; SliceOf A: of values of A
--   before s, after s  what it holds when the call begins, and when it ends
--   lay values old     the first places hold the values, and the rest is as it was
--   lay_at at values old
--                      the same from a place on: what stands before the place is as it was, too
--   Put old at values next new
--                      the values were put from the place at on, and next is the place after them; all else is as it was
--                      (`put_found`, `put_front`, `put_back`), and nothing is left open (`put_determined`)
use Rattle.std.specs.Prelude.{◌≡◌, List, ◌++◌, ℕ, ◌+◌, ◌≤◌, length, take, drop}
use denote.Triple.Both.{Both}
use Rattle.std.specs.Borrow.{MutBor}

abbrev pub SliceOf : Type 0 → Type 0
SliceOf A = Both (MutBor (List A)) (MutBor (List A))

abbrev pub Slice : Type 0
Slice = SliceOf ℕ

abbrev pub before : {A : Type 0} → SliceOf A → List A
before s = s.entry.now

abbrev pub after : {A : Type 0} → SliceOf A → List A
after s = s.exit.now

unfoldable pub lay : {A : Type 0} → List A → List A → List A
lay values old = values ++ drop (length values) old

unfoldable pub lay_at : {A : Type 0} → ℕ → List A → List A → List A
lay_at at values old = take at old ++ lay values (drop at old)

pub record Put (old : List ℕ) (at : ℕ) (values : List ℕ) (next : ℕ) (new : List ℕ) : Type 0 where
  pub ends : next ≡ at + length values
  pub within : next ≤ length old
  pub laid : new ≡ lay_at at values old
