-- Where and why the reader refuses: each refusal by its line of the scope, with its place.
use Prim.Native.Nat.{ℕ, ◌+◌, ◌*◌, ◌^◌, ◌<◌, ◌≤◌}
use mathlib.Core.List.{List, ◌∷◌, ◌++◌, append-nil}
use mathlib.Core.Logic.{◌↔◌, ◌⊎◌, inl, inr}
use mathlib.Core.Path.{◌≡◌, refl, sym, ap, ap₂, ◌∙◌}
use native.Mathlib.Decide.{dec_le, dec_lt}
use native.Mathlib.Omega.{arith}
use lib.Dec.{leb}
use lib.ListN.{length, take, drop}
use lib.Seq.{take_at}
use borrow.Author.Tests.{leb-false}
use Rattle.std.specs.Prelude.{Result, Ok, Err}
use Rattle.verdict.specs.declared.Fault.{Fault as FaultAt}
use Rattle.verdict.specs.Verdict.Verdict.{Against}
use Rattle.verdict.specs.Refusals.{number}
use Rattle.verdict.proofs.Ordered.{apart, need_against}
use Rattle.sets.specs.Rooms.{max_room}
use Rattle.pattern.specs.Pattern.{Pattern}
use Rattle.pattern.specs.Tests.{set_test}
use Rattle.numbers.specs.Numbers.{encode, number_at, AreBytes}
use Rattle.numbers.specs.Numbers.Number.{Value, Fault}
use Rattle.numbers.specs.Format.{Format, ended, item, gate, many, Reading, got, refused, reading, file_reading, encode_all}
use Rattle.numbers.specs.Faults.{Padded, TooBig, After, here, taken, through, StoppedBy, by_form, by_range, by_gate, Stops}
use Rattle.numbers.proofs.RoundTrip.{read_after_write}
use Rattle.numbers.proofs.Faults.{cut_exactly, padded_exactly, too_big_exactly, fault_is}
use Rattle.numbers.proofs.Formats.{refused_got, ReadAs, write_after_reading, file_read_after_write}
use Rattle.numbers.proofs.Parts.{before_all, reading_ended}
use Rattle.numbers.proofs.Steps.{file_stopped, file_tail, file_whole}
use Rattle.numbers.proofs.Places.{first_fault, refused_is, stops, AfterMany, among, behind, after_many, reading_behind}
use Rattle.patternfile.specs.PatternFile as PatternFile
use Rattle.patternfile.specs.PatternFile.{pattern_format}
use Rattle.patternfile.specs.Parts.{PartOf}
use Rattle.patternfile.proofs.Contents.{NumbersOf, fits_numbers, part_then, part_stopped}
use Rattle.patternfile.proofs.Places as PatternPlaces
use Rattle.patternfile.proofs.Places.{set_against, refused_there}
use Rattle.evidencefile.specs.declared.EvidenceNumbers.{EvidenceNumbers}
use Rattle.evidencefile.specs.EvidenceFile.{Rooms, Lists, rooms_of, count_test, pair_room_test, pairs_format, evidence_format}
use Rattle.evidencefile.specs.Reader.{Reads, number_of, values_of, IsRefused}
use Rattle.evidencefile.specs.Refusals.{RefusedAt, in_pattern, bad_list, no_room, bad_set, cut, padded, too_big, tail}
use Rattle.evidencefile.proofs.Contents.{pair_room_fine, OfferOf, fits_offer}

-- ---- what each test refuses

count_against : (m : ℕ) {w : ℕ} → count_test m ≡ Against w → (w ≡ 16) × (max_room < m)
unfolding count_test
count_against m h = let (i, j) = need_against (leb m max_room) 16 h in (j, leb-false m max_room i)

pair_room_against : (lefts rights m : ℕ) {w : ℕ} → pair_room_test lefts rights m ≡ Against w → (w ≡ 14) × ((lefts < m) ⊎ (rights < m))
unfolding pair_room_test
pair_room_against lefts rights m h = ((need_against _ 14 h).1, outside (dec_le m lefts) (dec_le m rights))
  where
    outside : Dec (m ≤ lefts) → Dec (m ≤ rights) → (lefts < m) ⊎ (rights < m)
    outside (no p) q = inl (omega arith)
    outside (yes p) (no q) = inr (omega arith)
    outside (yes p) (yes q) = apart ((pair_room_fine lefts rights m).1 (p, q)) h

-- a number badly formed
form_refused : {rooms : Rooms} {s : List ℕ} {w place : ℕ} → number_at s place ≡ Fault w place → RefusedAt rooms s w place
form_refused {rooms} {s} {w} {place} h = go (fault_is s place h).0
  where
    go : (w ≡ 20) ⊎ ((w ≡ 21) ⊎ (w ≡ 23)) → RefusedAt rooms s w place
    go (inl e) = rw e (cut ((cut_exactly s place).0 (rw e at h)))
    go (inr (inl e)) = rw e (padded ((padded_exactly s place).0 (rw e at h)))
    go (inr (inr e)) = rw e (too_big ((too_big_exactly s place).0 (rw e at h)))

-- ---- behind the pattern's numbers

module _ (rooms : Rooms) {s : List ℕ} (are : AreBytes s) {P : Pattern} {x y end : ℕ} (part : PartOf rooms.rows s P x y end) where
  at_side : {w place : ℕ} {rest : ℕ → Format} → StoppedBy s w place (item (set_test P.states) rest) → RefusedAt rooms s w place
  at_side (by_form h) = form_refused h
  at_side (by_range {v = v} h q) = let (i, j) = set_against P.states v q in rw i (bad_set part h j)

  at_count : {w place : ℕ} {rest : ℕ → Format} → place ≡ end → StoppedBy s w place (item count_test rest) → RefusedAt rooms s w place
  at_count e (by_form h) = form_refused h
  at_count e (by_range {v = v} h q) = let (i, j) = count_against v q in rw (i, e) (bad_list part (rw e at h) j)

  at_room : {w place : ℕ} {rest : Format} (m : ℕ) → number_at s end ≡ Value m place → StoppedBy s w place (gate (pair_room_test rooms.lefts rooms.rights m) rest) → RefusedAt rooms s w place
  at_room m e (by_gate h) = let (i, j) = pair_room_against rooms.lefts rooms.rights m h in rw i (no_room part e j)

  module _ {w place : ℕ} (h : reading (pairs_format P.states rooms.lefts rooms.rights) s end ≡ refused w place) where
    -- all numbers were taken: then nothing was refused
    not_behind : {us : List ℕ} → After (pairs_format P.states rooms.lefts rooms.rights) us ended → drop end s ≡ encode_all us ++ drop place s → ⊥
    not_behind {us} a b =
        refused_got (sym h ∙ reading_behind s a end (drop place s) b ∙ ap (before_all us) (reading_ended s (end + length (encode_all us))))

    in_pairs : (m : ℕ) {us vs : List ℕ} {g : Format} → AfterMany (2 * m) (set_test P.states) ended vs g → After (pairs_format P.states rooms.lefts rooms.rights) us g → StoppedBy s w place g
        → drop end s ≡ encode_all us ++ drop place s → RefusedAt rooms s w place
    in_pairs m among a st b = at_side st
    in_pairs m (behind ws vs e l here) a st b = absurd (not_behind a b)

    in_room : (m : ℕ) {vs : List ℕ} {g : Format} → After (pairs_format P.states rooms.lefts rooms.rights) (m ∷ vs) g
        → After (gate (pair_room_test rooms.lefts rooms.rights m) (many (2 * m) (set_test P.states) ended)) vs g
        → m < 2 ^ 64 → StoppedBy s w place g → place ≡ end + length (encode_all (m ∷ vs)) → drop end s ≡ encode_all (m ∷ vs) ++ drop place s → RefusedAt rooms s w place
    unfolding encode_all
    in_room m a (through c k) l st p b = in_pairs m (after_many (2 * m) (set_test P.states) ended k) a st b
    in_room m a here l st p b =
        let d : drop end s ≡ encode m ++ drop place s = b ∙ ap (λ (t : List ℕ). t ++ drop place s) (append-nil (encode m)) in
        let e : end + length (encode m) ≡ place = omega (arith, p, ap length (append-nil (encode m))) in
        at_room m (read_after_write s end m (drop place s) l d ∙ ap (Value m) e) st

    in_count : {us : List ℕ} {g : Format} → After (pairs_format P.states rooms.lefts rooms.rights) us g
        → After (item count_test (λ m. gate (pair_room_test rooms.lefts rooms.rights m) (many (2 * m) (set_test P.states) ended))) us g
        → StoppedBy s w place g → place ≡ end + length (encode_all us) → drop end s ≡ encode_all us ++ drop place s → RefusedAt rooms s w place
    unfolding encode_all
    in_count a here st p b = at_count (omega (arith, p)) st
    in_count a (taken {v = m} l q k) st p b = in_room m a k l st p b

    pub behind_refused : RefusedAt rooms s w place
    unfolding pairs_format
    behind_refused =
        let r : Stops (pairs_format P.states rooms.lefts rooms.rights) s end w place = stops (pairs_format P.states rooms.lefts rooms.rights) s end w place are h in
        in_count r.follows r.follows r.stopped r.placed r.bytes

-- ---- the whole file

module _ (s : List ℕ) (rooms : Rooms) (are : AreBytes s) where
  -- bytes behind what is a whole file
  behind_file : (vs : List ℕ) (last : ℕ) → reading (evidence_format rooms) s 0 ≡ got vs last → last < length s → RefusedAt rooms s 22 last
  behind_file vs last q h =
      let r : ReadAs (evidence_format rooms) vs s 0 last = write_after_reading (evidence_format rooms) s 0 vs last are q in
      let c : OfferOf vs = fits_offer rooms vs r.fits in
      let bytes : take last s ≡ encode_all vs = ap (take last) r.bytes ∙ take_at (encode_all vs) (drop last s) last (omega (arith, r.after)) in
      tail c.offer h
      (record {
        tabled = c.tabled;
        paired = c.paired;
        read =
            ap (file_reading (evidence_format rooms)) bytes
            ∙ file_read_after_write (evidence_format rooms) vs r.fits
            ∙ ap₂ (λ (t : List ℕ) (l : ℕ). got t l) c.all (ap length (sym bytes));
      })

  module _ {w place : ℕ} (e : file_reading (evidence_format rooms) s ≡ refused w place) where
    told : {u p : ℕ} → file_reading (evidence_format rooms) s ≡ refused u p → RefusedAt rooms s u p → RefusedAt rooms s w place
    told q r = let (i, j) = refused_is (sym e ∙ q) in rw (i, j) r

    at_end : (vs : List ℕ) (last : ℕ) → reading (evidence_format rooms) s 0 ≡ got vs last → Dec (last < length s) → RefusedAt rooms s w place
    at_end vs last q (yes h) = told (file_tail (evidence_format rooms) s q h) (behind_file vs last q h)
    at_end vs last q (no h) = absurd (refused_got (sym e ∙ file_whole (evidence_format rooms) s q (omega (arith, h))))

    in_file : (r : Reading) → reading (pattern_format rooms.rows) s 0 ≡ r → RefusedAt rooms s w place
    unfolding evidence_format
    in_file (refused u p) q =
        told (file_stopped (evidence_format rooms) s (part_stopped rooms.rows (λ n. pairs_format n rooms.lefts rooms.rights) s q))
        (in_pattern q (refused_there are (file_stopped (pattern_format rooms.rows) s q)))
    in_file (got us end) q =
        let r : ReadAs (pattern_format rooms.rows) us s 0 end = write_after_reading (pattern_format rooms.rows) s 0 us end are q in
        let c : NumbersOf us = fits_numbers rooms.rows us r.fits in
        let part : PartOf rooms.rows s c.pattern c.x c.y end = record { tabled = c.tabled; read = q ∙ ap (λ (t : List ℕ). got t end) c.all } in
        let on = (part_then rooms.rows (λ n. pairs_format n rooms.lefts rooms.rights) s part).same in
        in_behind part on (reading (pairs_format c.pattern.states rooms.lefts rooms.rights) s end) refl
      where
        in_behind : {P : Pattern} {x y end : ℕ} → PartOf rooms.rows s P x y end
            → reading (evidence_format rooms) s 0 ≡ before_all (PatternFile.numbers_of P x y) (reading (pairs_format P.states rooms.lefts rooms.rights) s end)
            → (r : Reading) → reading (pairs_format P.states rooms.lefts rooms.rights) s end ≡ r → RefusedAt rooms s w place
        in_behind {P} {x} {y} part on (refused u p) q =
            told (file_stopped (evidence_format rooms) s (on ∙ ap (before_all (PatternFile.numbers_of P x y)) q)) (behind_refused rooms are part q)
        in_behind {P} {x} {y} part on (got vs last) q =
            at_end (PatternFile.numbers_of P x y ++ vs) last (on ∙ ap (before_all (PatternFile.numbers_of P x y)) q) (dec_lt last (length s))

-- THE PLACE OF EACH REFUSAL is what the scope says; the numbers before it are right, by the law `first_fault`
pub refusal_place : {s : List ℕ} {old new : Lists} (f : FaultAt) → AreBytes s → Reads s old (Err f) new → RefusedAt (rooms_of old) s (number f.why) f.place
refusal_place {s} {old} f are r = in_file s (rooms_of old) are r.fault (reading (pattern_format (length old.rows)) s 0) refl

-- by two of the numbers a host knows how the number there is badly written
pub padded_there : {rooms : Rooms} {s : List ℕ} {w place : ℕ} → RefusedAt rooms s w place → w ≡ 21 → Padded 0 (drop place s)
padded_there (padded h) e = h
padded_there (in_pattern q h) e = PatternPlaces.padded_there h e
padded_there (bad_list p q h) e = absurd (omega arith)
padded_there (no_room p q h) e = absurd (omega arith)
padded_there (bad_set p q h) e = absurd (omega arith)
padded_there (cut h) e = absurd (omega arith)
padded_there (tail o l f) e = absurd (omega arith)
padded_there (too_big h) e = absurd (omega arith)

pub too_big_there : {rooms : Rooms} {s : List ℕ} {w place : ℕ} → RefusedAt rooms s w place → w ≡ 23 → TooBig 0 (drop place s)
too_big_there (too_big h) e = h
too_big_there (in_pattern q h) e = PatternPlaces.too_big_there h e
too_big_there (bad_list p q h) e = absurd (omega arith)
too_big_there (no_room p q h) e = absurd (omega arith)
too_big_there (bad_set p q h) e = absurd (omega arith)
too_big_there (cut h) e = absurd (omega arith)
too_big_there (padded h) e = absurd (omega arith)
too_big_there (tail o l f) e = absurd (omega arith)

-- and it is refused so exactly where reading stops there
pub refusal_exactly : (s : List ℕ) (old : Lists) (r : Result EvidenceNumbers FaultAt) (new : Lists) {w place : ℕ} → AreBytes s → Reads s old r new
    → (IsRefused r × (number_of r ≡ w) × ((values_of r).place ≡ place)) ↔ Stops (evidence_format (rooms_of old)) s 0 w place
refusal_exactly s old (Ok f) new {w} {place} are h = (
  λ q. absurd q.0,
  λ t. absurd (refused_got (sym ((first_fault (evidence_format (rooms_of old)) s w place are).1 t) ∙ h.file.read)),
)
refusal_exactly s old (Err f) new {w} {place} are h = (
  λ q. (first_fault (evidence_format (rooms_of old)) s w place are).0 (h.fault ∙ rw (q.1, q.2) refl),
  λ t. let (e, p) = refused_is (sym h.fault ∙ (first_fault (evidence_format (rooms_of old)) s w place are).1 t) in (tt, e, p),
)
