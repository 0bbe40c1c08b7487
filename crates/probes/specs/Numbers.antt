-- What the probes of numbers answer.
use Rattle.std.specs.Prelude.{◌≡◌, List, ℕ, ◌+◌, ◌≤◌, length}
use Rattle.lent.specs.Lent.{Put}
use Rattle.numbers.specs.Numbers.{NumberRead, encode}
use Rattle.numbers.specs.Numbers.NumberRead.{Done, Refused}
use Rattle.probes.specs.declared.Probed.{Probed}
use Rattle.probes.specs.declared.ProbedNumber.{ProbedNumber}

abbrev pub probed_number : NumberRead → ProbedNumber
probed_number (Done v n) = record { answer = 7; value = v; took = n; place = 0 }
probed_number (Refused w place) = record { answer = w; value = 0; took = 0; place = place }

-- 7 and the place after it where the number's bytes fit; else 14, and nothing is written
pub record WritesNumber (old : List ℕ) (at v : ℕ) (r : Probed) (new : List ℕ) : Type 0 where
  pub done : at + length (encode v) ≤ length old → (r.answer ≡ 7) × Put old at (encode v) r.value new
  pub refused : (at + length (encode v) ≤ length old → ⊥) → (r.answer ≡ 14) × (r.value ≡ 0) × (new ≡ old)
