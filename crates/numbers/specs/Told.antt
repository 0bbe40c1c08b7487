-- What the code answers of a number, as the definitions see it.
--   told_read r         what `read` answers
--   told_number r       a number of a file, or a fault
--   HoldsTo Tells bytes at r
--                       the number at a place was held to a test, where `Tells v r` holds of what the test of v may answer
--   EndsAt bytes place r
--                       the data end at a place, or TAIL stands there
use Rattle.std.specs.Prelude.{ℕ, ◌^◌, ◌<◌, ◌≤◌, List, ◌≡◌, length, Result, Ok, Err}
use Rattle.verdict.specs.declared.Refusal.{Refusal}
use Rattle.verdict.specs.declared.Refusal.TheVariants.{Tail}
use Rattle.verdict.specs.declared.Fault.{Fault as FaultAt}
use Rattle.verdict.specs.Verdict.{Verdict}
use Rattle.verdict.specs.Refusals.{number, said}
use Rattle.numbers.specs.declared.Taken.{Taken}
use Rattle.numbers.specs.declared.Placed.{Placed}
use Rattle.numbers.specs.Numbers.{Number, NumberRead, number_at}
use Rattle.numbers.specs.Numbers.Number.{Value, Fault}
use Rattle.numbers.specs.Numbers.NumberRead.{Done, Refused}
use Rattle.numbers.specs.Format.{held_to}

abbrev pub told_read : Result Taken FaultAt → NumberRead
told_read (Ok r) = Done r.value r.took
told_read (Err fault) = Refused (number fault.why) fault.place

abbrev pub told_number : Result Placed FaultAt → Number
told_number (Ok r) = Value r.value r.next
told_number (Err fault) = Fault (number fault.why) fault.place

pub record HoldsTo (Tells : ℕ → Result (Unit {0}) Refusal → Type 0) (bytes : List ℕ) (at : ℕ) (result : Result Placed FaultAt) : Type 0 where
  pub held : (test : ℕ → Verdict) → ((v : ℕ) (r : Result (Unit {0}) Refusal) → v < 2 ^ 64 → Tells v r → said r ≡ test v) → told_number result ≡ held_to test at (number_at bytes at)

abbrev pub EndsAt : List ℕ → ℕ → Result (Unit {0}) FaultAt → Type 0
EndsAt bytes place (Ok done) = length bytes ≤ place
EndsAt bytes place (Err fault) = (place < length bytes) × (fault ≡ record { why = Tail; place = place })
