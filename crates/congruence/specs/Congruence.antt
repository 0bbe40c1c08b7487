-- Congruence (the scope, §4; 000, section 3): the least relation on sets that has the given pairs, is reflexive, symmetric and transitive, and goes under unions.
--   Congruence S    S is reflexive, symmetric and transitive, and goes under unions
--   Congruent R     the least congruence that has the pairs of R (`congruent_laws`, `least`)
--   Listed ls rs    the pairs of a list
use Rattle.std.specs.Prelude.{◌≡◌, List, ℕ, ◌<◌, length, get_or}
use Rattle.std.specs.Int.Bits.{bit_or}

pub record Congruence (S : ℕ → ℕ → Type 0) : Type 0 where
  pub reflexive : (a : ℕ) → S a a
  pub symmetric : {a b : ℕ} → S a b → S b a
  pub transitive : {a b c : ℕ} → S a b → S b c → S a c
  pub unions : {a b c d : ℕ} → S a b → S c d → S (bit_or a c) (bit_or b d)

pub data Congruent (R : ℕ → ℕ → Type 0) : ℕ → ℕ → Type 0 where
  given : {a b : ℕ} → R a b → Congruent R a b
  same : (a : ℕ) → Congruent R a a
  back : {a b : ℕ} → Congruent R a b → Congruent R b a
  on : {a b c : ℕ} → Congruent R a b → Congruent R b c → Congruent R a c
  union : {a b c d : ℕ} → Congruent R a b → Congruent R c d → Congruent R (bit_or a c) (bit_or b d)

-- the pair (a, b) is listed: it stands at a place of the two sides of a list
pub record Listed (lefts rights : List ℕ) (a b : ℕ) : Type 0 where
  pub at : ℕ
  pub below : at < length lefts
  pub left : get_or lefts at 0 ≡ a
  pub right : get_or rights at 0 ≡ b
