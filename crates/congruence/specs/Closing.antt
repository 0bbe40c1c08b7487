-- Closing a set by pairs, as the scope has it (§4): for each pair, add one side where the other lies within; go on until no pair adds anything.
--   added a b mask           b is added where a lies within the mask
--   Grows R set mask         the set grew to the mask: by nothing, or by one side after another
--   Closed R set             no pair adds anything
--   Closes R set closed      grown, and no pair adds anything: it decides congruence (`closing_decides`)
--   Passes R set goal mask   what one pass over the pairs makes of the set: it may end early once the goal lies within
--   Toward R set goal mask   grown until the goal lies within, or no pair adds anything: so much decides congruence too (`growing_decides`)
use Rattle.std.specs.Prelude.{◌≡◌, ◌↔◌, ◌⊎◌, ℕ, ◌==◌, if◌then◌else◌}
use Rattle.std.specs.Int.Bits.{bit_or, bit_and}
use Rattle.sets.specs.Sets.{Within}

unfoldable pub added : ℕ → ℕ → ℕ → ℕ
added a b mask = if bit_and a mask == a then bit_or b mask else mask

pub data Grows (R : ℕ → ℕ → Type 0) (set : ℕ) : ℕ → Type 0 where
  nothing : Grows R set set
  right : {a b mask : ℕ} → Grows R set mask → R a b → Within a mask → Grows R set (bit_or b mask)
  left : {a b mask : ℕ} → Grows R set mask → R a b → Within b mask → Grows R set (bit_or a mask)

-- where one side of a pair lies within the set, so does the other
abbrev pub Closed : (ℕ → ℕ → Type 0) → ℕ → Type 0
Closed R set = (a b : ℕ) → R a b → Within a set ↔ Within b set

pub record Closes (R : ℕ → ℕ → Type 0) (set closed : ℕ) : Type 0 where
  pub grown : Grows R set closed
  pub still : Closed R closed

-- a pass that added nothing had the goal within already, or found no pair that adds anything
pub record Passes (R : ℕ → ℕ → Type 0) (set goal mask : ℕ) : Type 0 where
  pub grown : Grows R set mask
  pub still : mask ≡ set → Within goal mask ⊎ Closed R mask

pub record Toward (R : ℕ → ℕ → Type 0) (set goal mask : ℕ) : Type 0 where
  pub grown : Grows R set mask
  pub ended : Within goal mask ⊎ Closed R mask
