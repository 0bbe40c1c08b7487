-- One number in groups of seven bits (the scope, §9). The laws that say what each word means stand in proofs/.
--   encode v           the bytes of v: its groups, lowest first (`encode_last`, `encode_more`)
--   byte_test i b      what is against b as byte number i, from 0, of a number
--   groups i bytes     what the bytes of a number are from its byte number i on: a `whole` value, or a `faulty` number
--   number_at bytes at  what stands at a place, for what goes on behind it (`read_after_write`, `write_after_read`, `cut_exactly`,
--                      `padded_exactly`, `too_big_exactly`)
--   read_at bytes at   what the reader answers there: a value and how many bytes it took, or the same fault (`done_exactly`,
--                      `refused_exactly`, `took`)
--   AreBytes bytes     each of them is a byte
--   Took bytes at v n  the value v took n bytes at a place, which are its one form (`took`)
use Rattle.std.specs.Prelude.{ℕ, zero, suc, ◌+◌, ◌*◌, ◌-◌, ◌/◌, ◌%◌, ◌<◌, ◌≤◌, cond, not, ◌||◌, List, [], ◌∷◌, ◌++◌, ◌≡◌, ltb, eqb, length, drop, get_or}
use Rattle.verdict.specs.Verdict.{Verdict}
use Rattle.verdict.specs.Verdict.Verdict.{Fine, Against}
use Rattle.verdict.specs.Tests.{need, in_order}

-- groups of seven bits, lowest group first; bit 7 of a byte is set when another group follows
unfoldable pub encode_in : ℕ → ℕ → List ℕ
encode_in zero v = []
encode_in (suc most) v = cond (ltb v 128) (v ∷ []) ((128 + v % 128) ∷ encode_in most (v / 128))

-- at most ten bytes
unfoldable pub encode : ℕ → List ℕ
encode v = encode_in 10 v

-- a last group of 0 after another is PADDED, a tenth byte of 00 too; any other tenth byte but 01 is TOO-BIG
unfoldable pub byte_test : ℕ → ℕ → Verdict
byte_test i b = in_order (need (eqb i 0 || not (eqb b 0)) 21 ∷ need (ltb i 9 || eqb b 1) 23 ∷ [])

-- a value and how many bytes it took, or a fault
pub data Form : Type 0 where
  whole : ℕ → ℕ → Form
  faulty : ℕ → Form

-- a group in front of what the later groups are
abbrev pub more : ℕ → Form → Form
more g (whole v n) = whole (g + v * 128) (suc n)
more g (faulty w) = faulty w

abbrev pub unless_faulty : Verdict → Form → Form
unless_faulty Fine f = f
unless_faulty (Against w) f = faulty w

-- each byte is judged when it is seen; an end of data before the last byte is CUT
unfoldable pub groups : ℕ → List ℕ → Form
groups i [] = faulty 20
groups i (b ∷ bs) = unless_faulty (byte_test i b) (cond (ltb b 128) (whole b 1) (more (b - 128) (groups (suc i) bs)))

-- a value and the place after it, or a fault's number and place
pub data Number : Type 0 where
  Value : ℕ → ℕ → Number
  Fault : ℕ → ℕ → Number

abbrev pub placed : ℕ → Form → Number
placed at (whole v n) = Value v (at + n)
placed at (faulty w) = Fault w at

-- the value and the place after it; or the fault, whose place is the first byte of the number, for CUT likewise
unfoldable pub number_at : List ℕ → ℕ → Number
number_at bytes at = placed at (groups 0 (drop at bytes))

-- a value and how many bytes it took, or a fault's number and place
pub data NumberRead : Type 0 where
  Done : ℕ → ℕ → NumberRead
  Refused : ℕ → ℕ → NumberRead

abbrev pub answered : ℕ → Form → NumberRead
answered at (whole v n) = Done v n
answered at (faulty w) = Refused w at

-- the value and how many bytes it took; or the fault, at the same place
unfoldable pub read_at : List ℕ → ℕ → NumberRead
read_at bytes at = answered at (groups 0 (drop at bytes))

pub record AreBytes (bytes : List ℕ) : Type 0 where
  pub each : (i : ℕ) → get_or bytes i 0 < 256

-- a number took n bytes at a place: 1 to 10, they are its one form, and behind them stands what follows
pub record Took (bytes : List ℕ) (at v n : ℕ) : Type 0 where
  pub form : drop at bytes ≡ encode v ++ drop (at + n) bytes
  pub count : n ≡ length (encode v)
  pub some : 1 ≤ n
  pub few : n ≤ 10
  pub within : at + n ≤ length bytes
