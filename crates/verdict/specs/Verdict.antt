-- What a test says: nothing against what it is shown, or a refusal by the scope's number (§7).
use Rattle.std.specs.Prelude.{ℕ}

pub data Verdict : Type 0 where
  Fine : Verdict
  Against : ℕ → Verdict
