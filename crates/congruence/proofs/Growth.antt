-- A set that grew by pairs: it lies within what it grew to, and is congruent to it; growth goes on, by more pairs too. Assumes nothing.
use Prim.Native.Nat.{ℕ}
use lib.Bits.{bit_or}
use Rattle.sets.specs.Sets.{Within}
use Rattle.sets.proofs.Inclusion.{within_refl, within_trans, within_right, within_union}
use Rattle.congruence.specs.Congruence.{Congruent}
use Rattle.congruence.specs.Congruence.Congruent.{given, same, back, on, union}
use Rattle.congruence.specs.Closing.{Grows}
use Rattle.congruence.specs.Closing.Grows.{nothing, right, left}

pub grown_within : {R : ℕ → ℕ → Type 0} {set mask : ℕ} → Grows R set mask → Within set mask
grown_within {R} {set} nothing = within_refl set
grown_within (right {a} {b} {mask} g r w) = within_trans (grown_within g) (within_right b mask)
grown_within (left {a} {b} {mask} g r w) = within_trans (grown_within g) (within_right a mask)

-- what is congruent to a part of a mask is added to it
add_side : {R : ℕ → ℕ → Type 0} {a b mask : ℕ} → Congruent R a b → Within a mask → Congruent R mask (bit_or b mask)
add_side {R} {a} {b} {mask} p w = rw w.joins at (union p (same mask))

pub grown_congruent : {R : ℕ → ℕ → Type 0} {set mask : ℕ} → Grows R set mask → Congruent R set mask
grown_congruent {R} {set} nothing = same set
grown_congruent (right g r w) = on (grown_congruent g) (add_side (given r) w)
grown_congruent (left g r w) = on (grown_congruent g) (add_side (back (given r)) w)

-- one growth after another
pub grown_on : {R : ℕ → ℕ → Type 0} {a b c : ℕ} → Grows R a b → Grows R b c → Grows R a c
grown_on p nothing = p
grown_on p (right q r w) = right (grown_on p q) r w
grown_on p (left q r w) = left (grown_on p q) r w

-- more pairs, more growth: passes over the parts of a list are growth by the whole
pub grown_monotone : {R S : ℕ → ℕ → Type 0} → ((a b : ℕ) → R a b → S a b) → {set mask : ℕ} → Grows R set mask → Grows S set mask
grown_monotone f nothing = nothing
grown_monotone f (right g r w) = right (grown_monotone f g) (f _ _ r) w
grown_monotone f (left g r w) = left (grown_monotone f g) (f _ _ r) w

-- what has the set and both sides of every pair within it has all growth within it
pub grown_under : {R : ℕ → ℕ → Type 0} {set mask top : ℕ} → ((a b : ℕ) → R a b → Within a top × Within b top) → Within set top → Grows R set mask → Within mask top
grown_under f h nothing = h
grown_under f h (right {a} {b} g r w) = within_union (f a b r).1 (grown_under f h g)
grown_under f h (left {a} {b} g r w) = within_union (f a b r).0 (grown_under f h g)
