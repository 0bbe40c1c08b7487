-- What reading an evidence file answers, and what it leaves in the row buffer and in the two side buffers lent.
--   with_lists f rows lefts rights
--                            the offer of the numbers f with these rows and sides; found_of o: the numbers of an offer
--   FileOf rooms bytes o     the bytes are the file of the offer o (`accepted_valid`, `file_of`), and of no other (`one_offer`)
--   Reads bytes old r new    the reader's promise: the answer r, and the buffers `new` where they were `old`; nothing is left open
--                            (`reader_determined`), what is accepted is a valid offer (`read_valid`), and a refusal stands where the scope says
--                            (`refusal_place`)
--   number_of r, values_of r   the number of an answer, and the values returned with it (`read_honest`)
--   IsRefused r              the answer is a refusal
use Rattle.std.specs.Prelude.{ℕ, ◌*◌, List, ◌≡◌, length, Result, Ok, Err}
use Rattle.verdict.specs.declared.Fault.{Fault}
use Rattle.verdict.specs.Refusals.{number}
use Rattle.numbers.specs.Format.{got, refused, file_reading}
use Rattle.patternfile.specs.Reader.{with_rows, found_in}
use Rattle.evidence.specs.Evidence.{Offer}
use Rattle.evidencefile.specs.declared.EvidenceNumbers.{EvidenceNumbers}
use Rattle.evidencefile.specs.EvidenceFile.{Lists, Rooms, rooms_of, lay_offer, numbers_of, evidence_format}

abbrev pub with_lists : EvidenceNumbers → List ℕ → List ℕ → List ℕ → Offer
with_lists f rows lefts rights = record { pattern = with_rows f.pattern rows; x = f.pattern.x; y = f.pattern.y; lefts = lefts; rights = rights }

abbrev pub found_of : Offer → EvidenceNumbers
found_of o = record { pattern = found_in o.pattern o.x o.y; pairs = length o.lefts }

pub record FileOf (rooms : Rooms) (bytes : List ℕ) (o : Offer) : Type 0 where
  pub tabled : length o.pattern.rows ≡ o.pattern.states * o.pattern.letters
  pub paired : length o.lefts ≡ length o.rights
  pub read : file_reading (evidence_format rooms) bytes ≡ got (numbers_of o) (length bytes)

-- DONE: rows and sides lie over what was there, so the entries after them keep their content
pub record ReadDone (bytes : List ℕ) (old : Lists) (f : EvidenceNumbers) (new : Lists) : Type 0 where
  pub rows : List ℕ
  pub lefts : List ℕ
  pub rights : List ℕ
  pub file : FileOf (rooms_of old) bytes (with_lists f rows lefts rights)
  pub counted : f.pairs ≡ length lefts
  pub written : new ≡ lay_offer (with_lists f rows lefts rights) old

-- a refusal: the first fault by place, and all buffers as they were
pub record ReadRefused (bytes : List ℕ) (old : Lists) (w place : ℕ) (new : Lists) : Type 0 where
  pub fault : file_reading (evidence_format (rooms_of old)) bytes ≡ refused w place
  pub unchanged : new ≡ old

abbrev pub Reads : List ℕ → Lists → Result EvidenceNumbers Fault → Lists → Type 0
Reads bytes old (Ok f) new = ReadDone bytes old f new
Reads bytes old (Err fault) new = ReadRefused bytes old (number fault.why) fault.place new

abbrev pub number_of : Result EvidenceNumbers Fault → ℕ
number_of (Ok f) = 7
number_of (Err fault) = number fault.why

-- n, k, finals, X, Y, the count of pairs and the place: DONE has place 0, and a refusal returns 0 for all but its place
pub record Values : Type 0 where
  pub states : ℕ
  pub letters : ℕ
  pub finals : ℕ
  pub x : ℕ
  pub y : ℕ
  pub pairs : ℕ
  pub place : ℕ

abbrev pub values_of : Result EvidenceNumbers Fault → Values
values_of (Ok f) =
    record { states = f.pattern.states; letters = f.pattern.letters; finals = f.pattern.finals; x = f.pattern.x; y = f.pattern.y; pairs = f.pairs; place = 0 }
values_of (Err fault) = record { states = 0; letters = 0; finals = 0; x = 0; y = 0; pairs = 0; place = fault.place }

abbrev pub IsRefused : Result EvidenceNumbers Fault → Type 0
IsRefused (Ok f) = ⊥
IsRefused (Err fault) = Unit {0}
