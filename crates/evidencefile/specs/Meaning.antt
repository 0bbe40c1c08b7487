-- What the answers of the reader and of the writer mean, to a host that sees their numbers (the scope, §7 and §9).
--   Readable rooms bytes   the bytes are the file of a valid offer, and the buffers have room
--   HonestRead             what an answer of the reader means (`read_honest`)
--   HonestWrite            what an answer of the writer means (`write_honest`)
use Rattle.std.specs.Prelude.{ℕ, ◌*◌, ◌≤◌, List, ◌↔◌, ◌≡◌, length, Result}
use Rattle.verdict.specs.declared.Refusal.{Refusal}
use Rattle.verdict.specs.declared.Fault.{Fault}
use Rattle.verdict.specs.Lines.{Applies}
use Rattle.lent.specs.Lent.{lay}
use Rattle.numbers.specs.Faults.{Stops}
use Rattle.patternfile.specs.Writer as Writer
use Rattle.patternfile.specs.Writer.{count_of}
use Rattle.evidence.specs.Evidence.{Offer, ValidOffer}
use Rattle.evidencefile.specs.declared.EvidenceNumbers.{EvidenceNumbers}
use Rattle.evidencefile.specs.EvidenceFile.{Rooms, Lists, rooms_of, lay_offer, file_bytes, evidence_format}
use Rattle.evidencefile.specs.Reader as Reader
use Rattle.evidencefile.specs.Reader.{Values, values_of}
use Rattle.evidencefile.specs.Writer.{Allowed}
use Rattle.evidencefile.specs.Refusals.{RefusedAt, write_lines}

pub record Readable (rooms : Rooms) (bytes : List ℕ) : Type 0 where
  pub offer : Offer
  pub valid : ValidOffer offer
  pub rows_fit : offer.pattern.states * offer.pattern.letters ≤ rooms.rows
  pub lefts_fit : length offer.lefts ≤ rooms.lefts
  pub rights_fit : length offer.rights ≤ rooms.rights
  pub file : bytes ≡ file_bytes offer

-- what is returned of a file
abbrev pub values_in : Offer → Values
values_in o =
    record { states = o.pattern.states; letters = o.pattern.letters; finals = o.pattern.finals; x = o.x; y = o.y; pairs = length o.lefts; place = 0 }

-- what is returned of a refusal
abbrev pub values_at : ℕ → Values
values_at place = record { states = 0; letters = 0; finals = 0; x = 0; y = 0; pairs = 0; place = place }

-- 7 DONE exactly where the bytes are a file, and then its values, rows and sides are returned, and what stands past them keeps its content; a
-- refusal, 10 and up, exactly where reading stops, by its number and place, and then nothing is changed
pub record HonestRead (bytes : List ℕ) (old : Lists) (r : Result EvidenceNumbers Fault) (new : Lists) : Type 0 where
  pub done : (Reader.number_of r ≡ 7) ↔ Readable (rooms_of old) bytes
  pub returned : (f : Readable (rooms_of old) bytes) → (values_of r ≡ values_in f.offer) × (new ≡ lay_offer f.offer old)
  pub refused : Reader.IsRefused r ↔ (Readable (rooms_of old) bytes → ⊥)
  pub refused_by : (w place : ℕ) → (Reader.IsRefused r × (Reader.number_of r ≡ w) × ((values_of r).place ≡ place)) ↔ Stops (evidence_format (rooms_of old)) bytes 0 w place
  pub reason : Reader.IsRefused r → RefusedAt (rooms_of old) bytes (Reader.number_of r) (values_of r).place
  pub high : Reader.IsRefused r → 10 ≤ Reader.number_of r
  pub quiet : Reader.IsRefused r → (values_of r ≡ values_at (values_of r).place) × (new ≡ old)

-- 7 DONE exactly where nothing is refused, and then the file stands at the start of the buffer, and the bytes past its count keep their content; a
-- refusal, 10 and up, exactly where a line applies, by its number, and then nothing is changed
pub record HonestWrite (o : Offer) (old : List ℕ) (r : Result ℕ Refusal) (new : List ℕ) : Type 0 where
  pub done : (Writer.number_of r ≡ 7) ↔ Allowed o (length old)
  pub returned : Writer.number_of r ≡ 7 → (count_of r ≡ length (file_bytes o)) × (new ≡ lay (file_bytes o) old)
  pub refused : Writer.IsRefused r ↔ (Allowed o (length old) → ⊥)
  pub refused_by : (w : ℕ) → (Writer.IsRefused r × (Writer.number_of r ≡ w)) ↔ Applies (write_lines o (length old)) w
  pub high : Writer.IsRefused r → 10 ≤ Writer.number_of r
  pub quiet : Writer.IsRefused r → (count_of r ≡ 0) × (new ≡ old)
