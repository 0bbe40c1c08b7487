-- Sets of states as masks: state s is in a set where bit s of the mask is 1. The laws that say what each word means stand in proofs/.
--   bit a s      bit s of the mask a, 0 or 1
--   Has a s      state s is in the set a
--   bit_or a b    (the library's) the union: its bit s is the larger of the two bits (`bit_or`)
--   2 ^ s        the set of the one state s (`single_members`)
--   Within a c   each state of a is in c (`within_members`)
--   meets a b    a state is in both (`meets_members`)
--   Good n a     a set of n states: it has no bit n or above (`good_bits`)
use Rattle.std.specs.Prelude.{◌≡◌, Bool, not, ℕ, ◌/◌, ◌%◌, ◌^◌, ◌<◌, eqb}
use Rattle.std.specs.Int.Bits.{bit_or, bit_and}

abbrev pub bit : ℕ → ℕ → ℕ
bit a s = a / 2 ^ s % 2

pub record Has (a s : ℕ) : Type 0 where
  pub is_one : bit a s ≡ 1

-- joining a to c adds nothing to c
pub record Within (a c : ℕ) : Type 0 where
  pub joins : bit_or a c ≡ c

unfoldable pub meets : ℕ → ℕ → Bool
meets a b = not (eqb (bit_and a b) 0)

pub record Good (n a : ℕ) : Type 0 where
  pub below : a < 2 ^ n
