-- One language within another: what the one-way question asks.
--   LanguageWithin   every event sequence that is accepted from the first set is accepted from the second
--   Escapes          an event sequence that is accepted from the first set and not from the second
use Rattle.std.specs.Prelude.{◌≡◌, true, false, List, ℕ}
use Rattle.pattern.specs.Pattern.{Pattern}
use Rattle.pattern.specs.Language.{accepts, Over}

pub record LanguageWithin (P : Pattern) (x y : ℕ) : Type 0 where
  pub words : (w : List ℕ) → Over P.letters w → accepts P x w ≡ true → accepts P y w ≡ true

pub record Escapes (P : Pattern) (x y : ℕ) (w : List ℕ) : Type 0 where
  pub letters : Over P.letters w
  pub accepted : accepts P x w ≡ true
  pub rejected : accepts P y w ≡ false
