-- A file of numbers (the scope, §9): each is judged by form, then by range, when it has been read; the first fault by place decides.
--   Format              what a file is made of; what comes next may depend on the numbers read so far
--   many m test rest    m numbers held to one test, and then the rest
--   reading f s at      what reading a format from a place on gives: the numbers and the place after them, or a refusal and its place
--   file_reading f s    the same of a whole file: bytes after the last number are TAIL
--   encode_all vs       the bytes of some numbers, one after the other
--   Fits f vs           the numbers are what the format asks for
-- A file is accepted exactly where it is `encode_all vs` of numbers that fit: `file_read_after_write`, `file_write_after_read`.
use Rattle.std.specs.Prelude.{ℕ, zero, suc, ◌^◌, ◌<◌, cond, List, [], ◌∷◌, ◌++◌, ◌≡◌, ltb, length}
use Rattle.verdict.specs.Verdict.{Verdict}
use Rattle.verdict.specs.Verdict.Verdict.{Fine, Against}
use Rattle.numbers.specs.Numbers.{Number, encode, number_at}
use Rattle.numbers.specs.Numbers.Number.{Value, Fault}

-- nothing more; a number held to a test, and what follows it; a verdict given here, before the next number is looked at
pub data Format : Type 0 where
  ended : Format
  item : (ℕ → Verdict) → (ℕ → Format) → Format
  gate : Verdict → Format → Format

unfoldable pub many : ℕ → (ℕ → Verdict) → Format → Format
many zero test rest = rest
many (suc m) test rest = item test (λ v. many m test rest)

pub data Reading : Type 0 where
  got : List ℕ → ℕ → Reading
  refused : ℕ → ℕ → Reading

-- a number that was read at a place, after the verdict on its range
abbrev pub ruled : Verdict → ℕ → ℕ → ℕ → Number
ruled Fine at v next = Value v next
ruled (Against w) at v next = Fault w at

-- form, then range: the place of either fault is the first byte of the number
abbrev pub held_to : (ℕ → Verdict) → ℕ → Number → Number
held_to test at (Value v next) = ruled (test v) at v next
held_to test at (Fault w place) = Fault w place

abbrev pub or_refused : Number → (ℕ → ℕ → Reading) → Reading
or_refused (Value v next) go_on = go_on v next
or_refused (Fault w place) go_on = refused w place

abbrev pub unless_refused : Verdict → ℕ → Reading → Reading
unless_refused Fine place r = r
unless_refused (Against w) place r = refused w place

abbrev pub before : ℕ → Reading → Reading
before v (got vs next) = got (v ∷ vs) next
before v (refused w place) = refused w place

unfoldable pub reading : Format → List ℕ → ℕ → Reading
reading ended s at = got [] at
reading (item test rest) s at = or_refused (held_to test at (number_at s at)) (λ v next. before v (reading (rest v) s next))
reading (gate verdict rest) s at = unless_refused verdict at (reading rest s at)

-- TAIL, at the first extra byte
abbrev pub no_tail : List ℕ → Reading → Reading
no_tail s (got vs next) = cond (ltb next (length s)) (refused 22 next) (got vs next)
no_tail s (refused w place) = refused w place

unfoldable pub file_reading : Format → List ℕ → Reading
file_reading f s = no_tail s (reading f s 0)

unfoldable pub encode_all : List ℕ → List ℕ
encode_all [] = []
encode_all (v ∷ vs) = encode v ++ encode_all vs

unfoldable pub Fits : Format → List ℕ → Type 0
Fits ended [] = Unit {0}
Fits ended (v ∷ vs) = ⊥
Fits (item test rest) [] = ⊥
Fits (item test rest) (v ∷ vs) = (v < 2 ^ 64) × (test v ≡ Fine) × Fits (rest v) vs
Fits (gate verdict rest) vs = (verdict ≡ Fine) × Fits rest vs
