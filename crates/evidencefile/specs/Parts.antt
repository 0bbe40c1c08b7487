-- What the parts of the reader promise.
--   Counts read r   what reading the count and the pairs comes to: the count and the place after the last pair, or the fault
--   FilledPairs ..  what the second pass leaves in the two side buffers
use Rattle.std.specs.Prelude.{ℕ, ◌*◌, List, ◌∷◌, ◌≡◌, length, Result, Ok, Err}
use Rattle.verdict.specs.declared.Fault.{Fault}
use Rattle.verdict.specs.Verdict.{Verdict}
use Rattle.verdict.specs.Refusals.{number}
use Rattle.lent.specs.Lent.{lay}
use Rattle.numbers.specs.declared.Placed.{Placed}
use Rattle.numbers.specs.Format.{ended, many, Reading, got, refused, reading}
use Rattle.evidencefile.specs.EvidenceFile.{alternating}

abbrev pub Counts : Reading → Result Placed Fault → Type 0
Counts read (Ok count) = (us : List ℕ) × (read ≡ got (count.value ∷ us) count.next)
Counts read (Err fault) = read ≡ refused (number fault.why) fault.place

-- the pairs that stand from a place on, whatever they were held to, lie over the buffers
pub record FilledPairs (bytes : List ℕ) (at count : ℕ) (lefts rights lefts' rights' : List ℕ) : Type 0 where
  pub filled : (test : ℕ → Verdict) (ls rs : List ℕ) (next : ℕ) → length ls ≡ length rs → reading (many (2 * count) test ended) bytes at ≡ got (alternating ls rs) next
      → (lefts' ≡ lay ls lefts) × (rights' ≡ lay rs rights)
