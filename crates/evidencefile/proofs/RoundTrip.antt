-- The two round trips of the evidence file, and what the reader accepts: instances of the law of files.
use Prim.Native.Nat.{ℕ, ◌*◌, ◌≤◌}
use mathlib.Core.List.{List}
use mathlib.Core.Path.{◌≡◌, refl, sym, ap, ◌∙◌, subst}
use native.Mathlib.Omega.{arith}
use lib.ListN.{length, take}
use Rattle.std.specs.Prelude.{Result, Ok}
use Rattle.verdict.specs.declared.Refusal.{Refusal}
use Rattle.verdict.specs.declared.Fault.{Fault}
use Rattle.lent.specs.Lent.{lay}
use Rattle.lent.proofs.Laying.{take_lay, lay_at_start}
use Rattle.lent.proofs.Putting.{put_ending}
use Rattle.numbers.specs.Numbers.{AreBytes}
use Rattle.numbers.proofs.Formats.{file_read_after_write}
use Rattle.evidence.specs.Evidence.{Offer, ValidOffer}
use Rattle.evidencefile.specs.declared.EvidenceNumbers.{EvidenceNumbers}
use Rattle.evidencefile.specs.EvidenceFile.{Rooms, Lists, rooms_of, lay_offer, numbers_of, file_bytes, evidence_format}
use Rattle.evidencefile.specs.Reader.{with_lists, found_of, FileOf, ReadDone, Reads}
use Rattle.evidencefile.specs.Writer.{Allowed, WriteDone, Writes}
use Rattle.evidencefile.proofs.Contents.{Accepted, accepted_fits, file_bytes_lem, accepted_valid}
use Rattle.evidencefile.proofs.Refusals.{write_fine}
use Rattle.evidencefile.proofs.Determined.{reader_determined, writer_determined}

-- ---- the bytes of a valid offer are a file

pub file_of : (rooms : Rooms) (o : Offer) → Accepted rooms o → FileOf rooms (file_bytes o) o
unfolding file_bytes
file_of rooms o a =
    record {
      tabled = a.valid.pattern.tabled;
      paired = a.valid.sides_match;
      read = file_read_after_write (evidence_format rooms) (numbers_of o) (accepted_fits rooms o a);
    }

-- the buffers of who reads it have room
pub record RoomFor (o : Offer) (rooms : Rooms) : Type 0 where
  pub rows : o.pattern.states * o.pattern.letters ≤ rooms.rows
  pub lefts : length o.lefts ≤ rooms.lefts
  pub rights : length o.rights ≤ rooms.rights

pub accepted : {rooms : Rooms} {o : Offer} → ValidOffer o → RoomFor o rooms → Accepted rooms o
accepted v r = record { valid = v; rows_fit = r.rows; lefts_fit = r.lefts; rights_fit = r.rights }

-- READ AFTER WRITE: what was written reads as the same values, rows and sides, and all its bytes are taken
pub read_after_write : (o : Offer) (out : List ℕ) (count : ℕ) (out' : List ℕ) → Writes o out (Ok count) out'
    → (old : Lists) (r : Result EvidenceNumbers Fault) (new : Lists) → RoomFor o (rooms_of old) → Reads (take count out') old r new
    → (r ≡ Ok (found_of o)) × (new ≡ lay_offer o old)
read_after_write o out count out' w old r new room q =
    let a : Allowed o (length out) = (write_fine o (length out)).0 w.allowed in
    let bytes : take count out' ≡ file_bytes o = put_ending w.written in
    let f : FileOf (rooms_of old) (take count out') o = subst (λ (s : List ℕ). FileOf (rooms_of old) s o) (sym bytes) (file_of (rooms_of old) o (accepted a.valid room)) in
    reader_determined (take count out') old r (Ok (found_of o)) new (lay_offer o old) q
    (record { rows = o.pattern.rows; lefts = o.lefts; rights = o.rights; file = f; counted = refl; written = refl })

-- ---- what the reader left

-- the offer that was read
abbrev pub offer_read : EvidenceNumbers → Lists → Offer
offer_read f new = with_lists f (take (f.pattern.states * f.pattern.letters) new.rows) (take f.pairs new.lefts) (take f.pairs new.rights)

pub left_offer : {s : List ℕ} {old : Lists} {f : EvidenceNumbers} {new : Lists} → (d : ReadDone s old f new) → offer_read f new ≡ with_lists f d.rows d.lefts d.rights
left_offer {old = old} {f} {new} d =
    let count = f.pattern.states * f.pattern.letters in
    let m = f.pairs in
    let rows : take count new.rows ≡ d.rows = ap (λ (l : Lists). take count l.rows) d.written ∙ take_lay d.rows old.rows count d.file.tabled in
    let lefts : take m new.lefts ≡ d.lefts = ap (λ (l : Lists). take m l.lefts) d.written ∙ take_lay d.lefts old.lefts m (sym d.counted) in
    let rights : take m new.rights ≡ d.rights = ap (λ (l : Lists). take m l.rights) d.written ∙ take_lay d.rights old.rights m (sym d.file.paired ∙ sym d.counted) in
    rw (rows, lefts, rights) refl

-- WHAT THE READER ACCEPTS is a valid offer
pub read_valid : {s : List ℕ} {old : Lists} {f : EvidenceNumbers} {new : Lists} → AreBytes s → Reads s old (Ok f) new → ValidOffer (offer_read f new)
read_valid are d = subst ValidOffer (sym (left_offer d)) (accepted_valid are d.file).valid

-- an accepted file is what the writer writes of it
writes_back : {rooms : Rooms} {s : List ℕ} {o : Offer} → AreBytes s → FileOf rooms s o → (out : List ℕ) → length s ≤ length out → WriteDone o out (length s) (lay s out)
writes_back {rooms} {s} {o} are f out l =
    let b : s ≡ file_bytes o = file_bytes_lem are f in
    record {
      allowed = (write_fine o (length out)).1 (record { valid = (accepted_valid are f).valid; enough = rw b at l });
      written = record { ends = omega (arith, ap length b); within = l; laid = ap (λ (v : List ℕ). lay v out) b ∙ sym (lay_at_start (file_bytes o) out) };
    }

-- WRITE AFTER READ: what was read is written back byte for byte
pub write_after_read : (s : List ℕ) (old : Lists) (f : EvidenceNumbers) (new : Lists) → AreBytes s → Reads s old (Ok f) new
    → (out : List ℕ) (r : Result ℕ Refusal) (out' : List ℕ) → length s ≤ length out → Writes (offer_read f new) out r out'
    → (r ≡ Ok (length s)) × (out' ≡ lay s out)
write_after_read s old f new are d out r out' l q =
    writer_determined (with_lists f d.rows d.lefts d.rights) out r (Ok (length s)) out' (lay s out)
    (subst (λ (o : Offer). Writes o out r out') (left_offer d) q) (writes_back are d.file out l)
