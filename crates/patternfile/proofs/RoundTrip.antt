-- The two round trips of the pattern file, and what the reader accepts.
use Prim.Native.Nat.{ℕ, ◌*◌, ◌≤◌}
use mathlib.Core.List.{List}
use mathlib.Core.Path.{◌≡◌, refl, sym, ap, ◌∙◌}
use native.Mathlib.Omega.{arith}
use lib.ListN.{length, take}
use Rattle.std.specs.Prelude.{Result, Ok}
use Rattle.verdict.specs.declared.Refusal.{Refusal}
use Rattle.verdict.specs.declared.Fault.{Fault}
use Rattle.lent.specs.Lent.{lay}
use Rattle.lent.proofs.Laying.{take_lay, lay_at_start}
use Rattle.lent.proofs.Putting.{put_ending}
use Rattle.sets.specs.Sets.{Good}
use Rattle.pattern.specs.Pattern.{Pattern, Valid}
use Rattle.numbers.specs.Numbers.{AreBytes}
use Rattle.numbers.proofs.Formats.{file_read_after_write}
use Rattle.patternfile.specs.declared.PatternNumbers.{PatternNumbers}
use Rattle.patternfile.specs.PatternFile.{numbers_of, file_bytes, pattern_format}
use Rattle.patternfile.specs.Reader.{with_rows, found_in, FileOf, ReadDone, Reads}
use Rattle.patternfile.specs.Writer.{Allowed, WriteDone, Writes}
use Rattle.patternfile.proofs.Contents.{Contents, contents_fit, file_bytes_lem, accepted_valid}
use Rattle.patternfile.proofs.Refusals.{write_fine}
use Rattle.patternfile.proofs.Determined.{reader_determined, writer_determined}

-- ---- the bytes of a valid pattern with two sets of its states are a file

pub file_of : (room : ℕ) (P : Pattern) (x y : ℕ) → Valid P → Good P.states x → Good P.states y → P.states * P.letters ≤ room → FileOf room (file_bytes P x y) P x y
unfolding file_bytes
file_of room P x y v gx gy enough =
    record { tabled = v.tabled; read = file_read_after_write (pattern_format room) (numbers_of P x y) (contents_fit room P x y v gx gy enough) }

-- what the writer left
written_bytes : (P : Pattern) (x y : ℕ) (out : List ℕ) (count : ℕ) (out' : List ℕ) → WriteDone P x y out count out' → take count out' ≡ file_bytes P x y
written_bytes P x y out count out' w = put_ending w.written

-- READ AFTER WRITE: what was written reads as the same values and rows, and all its bytes are taken
pub read_after_write : (P : Pattern) (x y : ℕ) (out : List ℕ) (count : ℕ) (out' : List ℕ) → Writes P x y out (Ok count) out'
    → (old : List ℕ) (r : Result PatternNumbers Fault) (new : List ℕ) → P.states * P.letters ≤ length old → Reads (take count out') old r new
    → (r ≡ Ok (found_in P x y)) × (new ≡ lay P.rows old)
read_after_write P x y out count out' w old r new enough q =
    let a : Allowed P x y (length out) = (write_fine P x y (length out)).0 w.allowed in
    let f : FileOf (length old) (take count out') P x y = rw (written_bytes P x y out count out' w) (file_of (length old) P x y a.valid a.good_x a.good_y enough) in
    reader_determined (take count out') old r (Ok (found_in P x y)) new (lay P.rows old) q
    (record { rows = P.rows; file = record { tabled = f.tabled; read = f.read }; written = refl })

-- ---- what the reader left

pub left_rows : {s old : List ℕ} {f : PatternNumbers} {new : List ℕ} → AreBytes s → (d : ReadDone s old f new) → take (f.states * f.letters) new ≡ d.rows
left_rows {old = old} {f} are d = ap (take (f.states * f.letters)) d.written ∙ take_lay d.rows old (f.states * f.letters) d.file.tabled

-- WHAT THE READER ACCEPTS is a valid pattern, with X and Y sets of its states
pub read_valid : {s old : List ℕ} {f : PatternNumbers} {new : List ℕ} → AreBytes s → Reads s old (Ok f) new
    → Valid (with_rows f (take (f.states * f.letters) new)) × Good f.states f.x × Good f.states f.y
read_valid {s} {old} {f} {new} are d =
    let c : Contents (length old) (with_rows f d.rows) f.x f.y = accepted_valid are d.file in
    (rw (left_rows are d) c.valid, c.good_x, c.good_y)

-- an accepted file is what the writer writes of it
writes_back : {room : ℕ} {s : List ℕ} {P : Pattern} {x y : ℕ} → AreBytes s → FileOf room s P x y → (out : List ℕ) → length s ≤ length out → WriteDone P x y out (length s) (lay s out)
writes_back {room} {s} {P} {x} {y} are f out l =
    let c : Contents room P x y = accepted_valid are f in
    let b : s ≡ file_bytes P x y = file_bytes_lem are f in
    record {
      allowed = (write_fine P x y (length out)).1 (record { valid = c.valid; good_x = c.good_x; good_y = c.good_y; enough = rw b at l });
      written = record { ends = omega (arith, ap length b); within = l; laid = ap (λ (v : List ℕ). lay v out) b ∙ sym (lay_at_start (file_bytes P x y) out) };
    }

-- WRITE AFTER READ: what was read is written back byte for byte
pub write_after_read : (s old : List ℕ) (f : PatternNumbers) (new : List ℕ) → AreBytes s → Reads s old (Ok f) new
    → (out : List ℕ) (r : Result ℕ Refusal) (out' : List ℕ) → length s ≤ length out → Writes (with_rows f (take (f.states * f.letters) new)) f.x f.y out r out'
    → (r ≡ Ok (length s)) × (out' ≡ lay s out)
write_after_read s old f new are d out r out' l q =
    writer_determined (with_rows f d.rows) f.x f.y out r (Ok (length s)) out' (lay s out) (rw (left_rows are d) at q) (writes_back are d.file out l)
