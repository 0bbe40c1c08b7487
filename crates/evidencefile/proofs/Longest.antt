-- The longest file has 40,994 bytes: none is longer, one is as long, and taking in 40,995 bytes never changes an answer.
use Prim.Native.Nat.{ℕ, ◌+◌, ◌*◌, ◌/◌, ◌<◌, ◌≤◌}
use mathlib.Core.List.{List}
use mathlib.Core.Path.{◌≡◌, refl, ap, subst}
use native.Mathlib.Decide.{dec_lt}
use native.Mathlib.Omega.{arith}
use lib.ListN.{length, take, replicate, length-replicate, get_or-replicate}
use Rattle.sets.specs.Sets.{Good}
use Rattle.sets.specs.Rooms.{max_room}
use Rattle.pattern.specs.Pattern.{AllGood}
use Rattle.pattern.specs.Tests.{set_test}
use Rattle.numbers.specs.Numbers.{encode, encode_in, AreBytes}
use Rattle.numbers.specs.Format.{Format, ended, gate, many, unless_refused, reading, file_reading, encode_all, Fits}
use Rattle.numbers.proofs.Groups.{encode_last, encode_more}
use Rattle.numbers.proofs.RoundTrip.{Found, write_after_read}
use Rattle.numbers.proofs.ListLoops.{all_ten}
use Rattle.numbers.proofs.Formats.{ReadAs, write_after_reading}
use Rattle.numbers.proofs.Reach.{Short, short_more, short_many, item_reach, reach, followed_reach, cap_reach}
use Rattle.patternfile.specs.PatternFile.{pattern_format}
use Rattle.patternfile.proofs.Contents.{first, pattern_followed}
use Rattle.patternfile.proofs.Longest as PatternFile
use Rattle.patternfile.proofs.Longest.{file_short, fits_short, pattern_reach, all_states, ten_each, as_long}
use Rattle.evidence.specs.Evidence.{Offer, offer_of, ValidOffer}
use Rattle.evidencefile.specs.EvidenceFile.{Rooms, alternating, file_bytes, count_test, pair_room_test, pairs_format, evidence_format}
use Rattle.evidencefile.specs.Reader.{FileOf}
use Rattle.evidencefile.proofs.Sides.{alternating_length, sides_size}
use Rattle.evidencefile.proofs.Contents.{count_fine, OfferOf, fits_offer, fits_accepted, file_bytes_lem, accepted_valid}
use Rattle.evidencefile.proofs.Storing.{parts_size}
use Rattle.evidencefile.proofs.RoundTrip.{file_of}

-- ---- no file is longer

-- a count takes two bytes at most
count_two : (m : ℕ) → m ≤ max_room → length (encode m) ≤ 2
unfolding encode
count_two m h =
    elim (dec_lt m 128) [
      | yes l ↦ rw (encode_last 9 m l) (omega arith)
      | no l ↦
          let k : 128 ≤ m = omega arith in
          let s : m / 128 < 128 = omega (arith, h) in
          rw (encode_more 9 m k, encode_last 8 (m / 128) s) (omega arith)
    ]

pub evidence_short : (o : Offer) → ValidOffer o → length (file_bytes o) ≤ 40994
evidence_short o v =
    omega (
      arith,
      parts_size o,
      file_short o.pattern o.x o.y v.pattern v.x_good v.y_good,
      count_two (length o.lefts) v.pairs_fit,
      all_ten (alternating o.lefts o.rights),
      alternating_length o.lefts o.rights v.sides_match,
      v.pairs_fit,
    )

-- nor is anything that is read as a file
pub no_longer : {rooms : Rooms} {s : List ℕ} {o : Offer} → AreBytes s → FileOf rooms s o → length s ≤ 40994
no_longer {rooms} {s} {o} are f = omega (arith, ap length (file_bytes_lem are f), evidence_short o (accepted_valid are f).valid)

fits_less : (rooms : Rooms) (vs : List ℕ) → Fits (evidence_format rooms) vs → length (encode_all vs) < 40995
unfolding file_bytes
fits_less rooms vs h =
    let o : OfferOf vs = fits_offer rooms vs h in
    let a = fits_accepted rooms o.offer o.tabled o.paired (subst (Fits (evidence_format rooms)) o.all h) in
    omega (arith, evidence_short o.offer a.valid, ap (λ (l : List ℕ). length (encode_all l)) o.all)

-- ---- one file is as long: the longest pattern file's pattern and sets, and 1,024 pairs of all 64 states

pub record AsLong (rooms : Rooms) (o : Offer) : Type 0 where
  pub file : FileOf rooms (file_bytes o) o
  pub valid : ValidOffer o
  pub bytes : length (file_bytes o) ≡ 40994

abbrev pub most_rows : ℕ
most_rows = 64 * 32

abbrev pub longest_offer : ℕ → ℕ → Offer
longest_offer i j = offer_of 64 32 all_states (replicate i all_states) all_states all_states (replicate j all_states) (replicate j all_states)

count_bytes : (j : ℕ) → j ≡ max_room → length (encode j) ≡ 2
unfolding encode encode_in
count_bytes j e = rw e refl

as_long_evidence : (i j : ℕ) → i ≡ most_rows → j ≡ max_room → AsLong (record { rows = i; lefts = j; rights = j }) (longest_offer i j)
as_long_evidence i j e f =
    record {
      file =
          file_of (record { rows = i; lefts = j; rights = j }) (longest_offer i j)
          (record { valid = valid; rows_fit = omega (arith, e); lefts_fit = omega (arith, size); rights_fit = omega (arith, size) });
      valid = valid;
      bytes =
          omega (
            arith,
            parts_size (longest_offer i j),
            part.bytes,
            ap (λ (m : ℕ). length (encode m)) size,
            count_bytes j f,
            sides_size (replicate j all_states) (replicate j all_states) refl,
            ten_each j,
            f,
          );
    }
  where
    part : PatternFile.AsLong i (longest_offer i j).pattern all_states all_states
    part = as_long i e

    size : length (replicate j all_states) ≡ j
    size = length-replicate j all_states

    good : Good 64 all_states
    good = record { below = omega arith }

    all_good : AllGood 64 (replicate j all_states)
    all_good m l = rw (get_or-replicate j m all_states 0 (rw size at l)) good

    valid : ValidOffer (longest_offer i j)
    valid =
        record {
          pattern = part.valid;
          pairs_fit = omega (arith, size, f);
          sides_match = refl;
          x_good = good;
          y_good = good;
          lefts_good = all_good;
          rights_good = all_good;
        }

pub one_as_long : AsLong (record { rows = most_rows; lefts = max_room; rights = max_room }) (longest_offer most_rows max_room)
one_as_long = as_long_evidence most_rows max_room refl refl

-- ---- what stands from byte 40,995 on does not matter

module _ (rooms : Rooms) (s : List ℕ) (are : AreBytes s) where
  pairs_reach : (n at : ℕ) → at ≤ 20512 → reading (pairs_format n rooms.lefts rooms.rights) (take 40995 s) at ≡ reading (pairs_format n rooms.lefts rooms.rights) s at
  unfolding pairs_format reading Short
  pairs_reach n at h =
      item_reach count_test (λ m. gate (pair_room_test rooms.lefts rooms.rights m) (many (2 * m) (set_test n) ended)) s at 40995 (omega arith)
      (λ m next t.
      let few : m ≤ 1024 = (count_fine m).0 t.range in
      let f : Found s at m next = write_after_read s at m next are t.form in
      let short : Short (2 * m) (many (2 * m) (set_test n) ended) =
      short_more (2 * m + 0) (2 * m) (many (2 * m) (set_test n) ended) (omega arith) (short_many (2 * m) 0 (set_test n) ended tt) in
      ap (unless_refused (pair_room_test rooms.lefts rooms.rights m) next)
      (reach (many (2 * m) (set_test n) ended) (2 * m) s next 40995 are short (omega (arith, f.after, count_two m few))))

  evidence_reach : reading (evidence_format rooms) (take 40995 s) 0 ≡ reading (evidence_format rooms) s 0
  unfolding evidence_format
  evidence_reach =
      let more : ℕ → Format = λ n. pairs_format n rooms.lefts rooms.rights in
      rw (pattern_followed rooms.rows more)
      (followed_reach (pattern_format rooms.rows) (λ us. more (first us)) s 40995 (pattern_reach rooms.rows s are 40995 (omega arith))
      (λ us end q.
      let r : ReadAs (pattern_format rooms.rows) us s 0 end = write_after_reading (pattern_format rooms.rows) s 0 us end are q in
      pairs_reach (first us) end (omega (arith, r.after, fits_short rooms.rows us r.fits))))

  pub cap_changes_nothing : file_reading (evidence_format rooms) (take 40995 s) ≡ file_reading (evidence_format rooms) s
  cap_changes_nothing = cap_reach (evidence_format rooms) s 40995 are evidence_reach (fits_less rooms)
