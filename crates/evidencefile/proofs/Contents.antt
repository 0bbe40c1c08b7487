-- What the numbers of an evidence file are: those of a valid offer, and no others.
use Prim.Native.Nat.{ℕ, zero, suc, ◌+◌, ◌*◌, ◌^◌, ◌<◌, ◌≤◌}
use mathlib.Core.List.{List, [], ◌∷◌, ◌++◌, append_assoc}
use mathlib.Core.Bool.{and-eq-true_iff}
use mathlib.Core.Logic.{◌↔◌}
use mathlib.Core.Path.{◌≡◌, refl, sym, ap, ap₂, ◌∙◌, subst}
use native.Mathlib.Nat.{lt_of_lt_of_le}
use native.Mathlib.Omega.{arith}
use lib.Dec.{leb}
use lib.ListN.{length, drop, length-append}
use lib.Pow.{pow_mono}
use borrow.Author.Tests.{leb-true, le-leb}
use Rattle.verdict.specs.Verdict.Verdict.{Fine}
use Rattle.verdict.proofs.Ordered.{need_holds, need_fine}
use Rattle.sets.specs.Sets.{Good}
use Rattle.sets.specs.Rooms.{max_room}
use Rattle.pattern.specs.Pattern.{AllGood}
use Rattle.pattern.specs.Tests.{set_test}
use Rattle.pattern.proofs.Validity.{set_fine}
use Rattle.numbers.specs.Numbers.{encode, AreBytes}
use Rattle.numbers.specs.Format.{Format, ended, many, got, reading, encode_all, Fits}
use Rattle.numbers.proofs.Formats.{ReadAs, behind, reading_after_write, write_after_reading, file_write_after_read}
use Rattle.numbers.proofs.Parts.{many_size, FitsFollowed, fits_followed}
use Rattle.patternfile.specs.PatternFile.{pattern_format}
use Rattle.patternfile.proofs.Contents.{Contents, fits_contents, contents_fit, NumbersOf, fits_numbers, first, pattern_followed, FitsPart, fits_part, part_fits}
use Rattle.evidence.specs.Evidence.{Offer, ValidOffer}
use Rattle.evidencefile.specs.EvidenceFile.{Rooms, alternating, numbers_of, file_bytes, count_test, pair_room_test, pairs_format, evidence_format}
use Rattle.evidencefile.specs.Reader.{FileOf}
use Rattle.evidencefile.proofs.Sides.{Parted, parted}

-- ---- the two tests of a count

pub count_fine : (m : ℕ) → (count_test m ≡ Fine) ↔ (m ≤ max_room)
unfolding count_test
count_fine m = (λ e. leb-true _ _ (need_fine _ 16 e), λ h. need_holds _ 16 (le-leb _ _ h))

pub pair_room_fine : (lefts rights m : ℕ) → (pair_room_test lefts rights m ≡ Fine) ↔ ((m ≤ lefts) × (m ≤ rights))
unfolding pair_room_test
pair_room_fine lefts rights m = (
  λ e. let (p, q) = (and-eq-true_iff (leb m lefts) (leb m rights)).0 (need_fine _ 14 e) in (leb-true _ _ p, leb-true _ _ q),
  λ (p, q). need_holds _ 14 (rw (le-leb m lefts p, le-leb m rights q) refl),
)

-- ---- the pairs that fit

-- two numbers more for one pair more
pub two_more : (m : ℕ) → 2 * suc m ≡ suc (suc (2 * m))
two_more m = omega arith

pub pairs_good : (n : ℕ) (ls rs : List ℕ) → length ls ≡ length rs → Fits (many (2 * length ls) (set_test n) ended) (alternating ls rs) → AllGood n ls × AllGood n rs
unfolding many Fits alternating
pairs_good n [] [] e h = (λ i l. absurd (omega (arith, l)), λ i l. absurd (omega (arith, l)))
pairs_good n [] (r ∷ rs) e h = absurd (omega (arith, e))
pairs_good n (l ∷ ls) [] e h = absurd (omega (arith, e))
pairs_good n (l ∷ ls) (r ∷ rs) e h =
    let f : Fits (many (suc (suc (2 * length ls))) (set_test n) ended) (l ∷ r ∷ alternating ls rs) =
    subst (λ (m : ℕ). Fits (many m (set_test n) ended) (l ∷ r ∷ alternating ls rs)) (two_more (length ls)) h in
    let (a, b) = pairs_good n ls rs (omega (arith, e)) f.2.2 in
    (both l ls ((set_fine n l).0 f.1) a, both r rs ((set_fine n r).0 f.2.1) b)
  where
    both : (v : ℕ) (vs : List ℕ) → Good n v → AllGood n vs → AllGood n (v ∷ vs)
    both v vs g a zero l = g
    both v vs g a (suc i) l = a i (omega (arith, l))

pub good_pairs : (n : ℕ) (ls rs : List ℕ) → n ≤ 64 → length ls ≡ length rs → AllGood n ls → AllGood n rs → Fits (many (2 * length ls) (set_test n) ended) (alternating ls rs)
unfolding many Fits alternating
good_pairs n [] rs fit e a b = tt
good_pairs n (l ∷ ls) [] fit e a b = absurd (omega (arith, e))
good_pairs n (l ∷ ls) (r ∷ rs) fit e a b =
    subst (λ (m : ℕ). Fits (many m (set_test n) ended) (l ∷ r ∷ alternating ls rs)) (sym (two_more (length ls)))
    (small l (a 0 (omega arith)), fine l (a 0 (omega arith)), (small r (b 0 (omega arith)), fine r (b 0 (omega arith)), good_pairs n ls rs fit (omega (arith, e)) (λ i h. a (suc i) (omega (arith, h))) (λ i h. b (suc i) (omega (arith, h)))))
  where
    small : (v : ℕ) → Good n v → v < 2 ^ 64
    small v g = lt_of_lt_of_le g.below (pow_mono fit)

    fine : (v : ℕ) → Good n v → set_test n v ≡ Fine
    fine v g = (set_fine n v).1 g

-- ---- the numbers of an offer

-- what fits, by its parts
pub record Accepted (rooms : Rooms) (o : Offer) : Type 0 where
  pub valid : ValidOffer o
  pub rows_fit : o.pattern.states * o.pattern.letters ≤ rooms.rows
  pub lefts_fit : length o.lefts ≤ rooms.lefts
  pub rights_fit : length o.rights ≤ rooms.rights

module _ (rooms : Rooms) (o : Offer) where
  abbrev n : ℕ
  n = o.pattern.states

  abbrev behind_all : List ℕ
  behind_all = length o.lefts ∷ alternating o.lefts o.rights

  pub fits_accepted : length o.pattern.rows ≡ o.pattern.states * o.pattern.letters → length o.lefts ≡ length o.rights → Fits (evidence_format rooms) (numbers_of o) → Accepted rooms o
  unfolding evidence_format pairs_format Fits
  fits_accepted t e h =
      let f : FitsPart rooms.rows o.pattern o.x o.y (pairs_format n rooms.lefts rooms.rights) behind_all =
      fits_part rooms.rows (λ n. pairs_format n rooms.lefts rooms.rights) o.pattern o.x o.y behind_all t h in
      let c : Contents rooms.rows o.pattern o.x o.y = fits_contents rooms.rows o.pattern o.x o.y t f.part in
      let (l, r) = (pair_room_fine rooms.lefts rooms.rights (length o.lefts)).0 f.rest.2.0 in
      let (lefts, rights) = pairs_good n o.lefts o.rights e f.rest.2.1 in
      record {
        valid =
            record {
              pattern = c.valid;
              pairs_fit = (count_fine (length o.lefts)).0 f.rest.1;
              sides_match = e;
              x_good = c.good_x;
              y_good = c.good_y;
              lefts_good = lefts;
              rights_good = rights;
            };
        rows_fit = c.enough;
        lefts_fit = l;
        rights_fit = omega (arith, r, e);
      }

  pub accepted_fits : Accepted rooms o → Fits (evidence_format rooms) (numbers_of o)
  unfolding evidence_format pairs_format Fits
  accepted_fits a =
      let v = a.valid in
      let count : length o.lefts ≤ 1024 = v.pairs_fit in
      let states : n ≤ 64 = v.pattern.sized.states_fit in
      part_fits rooms.rows (λ n. pairs_format n rooms.lefts rooms.rights) o.pattern o.x o.y behind_all
      (contents_fit rooms.rows o.pattern o.x o.y v.pattern v.x_good v.y_good a.rows_fit) (
        omega (arith, count),
        (count_fine (length o.lefts)).1 v.pairs_fit,
        ((pair_room_fine rooms.lefts rooms.rights (length o.lefts)).1 (a.lefts_fit, omega (arith, v.sides_match, a.rights_fit)), good_pairs n o.lefts o.rights states v.sides_match v.lefts_good v.rights_good),
      )

-- numbers that fit are those of an offer
pub record OfferOf (vs : List ℕ) : Type 0 where
  pub offer : Offer
  pub tabled : length offer.pattern.rows ≡ offer.pattern.states * offer.pattern.letters
  pub paired : length offer.lefts ≡ length offer.rights
  pub all : vs ≡ numbers_of offer

fits_pairs : (n lefts rights : ℕ) (vs : List ℕ) → Fits (pairs_format n lefts rights) vs → (ls : List ℕ) × (rs : List ℕ) × (length ls ≡ length rs) × (vs ≡ length ls ∷ alternating ls rs)
unfolding pairs_format Fits
fits_pairs n lefts rights [] h = absurd h
fits_pairs n lefts rights (m ∷ us) h =
    let p : Parted m us = parted m us (many_size (2 * m) (set_test n) us h.2.1) in
    (p.lefts, p.rights, p.lefts_are ∙ sym p.rights_are, ap₂ (λ (c : ℕ) (l : List ℕ). c ∷ l) (sym p.lefts_are) p.all)

pub fits_offer : (rooms : Rooms) (vs : List ℕ) → Fits (evidence_format rooms) vs → OfferOf vs
unfolding evidence_format
fits_offer rooms vs h =
    let more : ℕ → Format = λ n. pairs_format n rooms.lefts rooms.rights in
    let f : FitsFollowed (pattern_format rooms.rows) (λ us. more (first us)) vs =
    fits_followed (pattern_format rooms.rows) (λ us. more (first us)) vs (subst (λ (f : Format). Fits f vs) (pattern_followed rooms.rows more) h) in
    let c : NumbersOf f.us = fits_numbers rooms.rows f.us f.first in
    let (ls, rs, paired, all) = fits_pairs (first f.us) rooms.lefts rooms.rights f.vs f.then in
    record {
      offer = record { pattern = c.pattern; x = c.x; y = c.y; lefts = ls; rights = rs };
      tabled = c.tabled;
      paired = paired;
      all = f.all ∙ ap₂ (λ (a b : List ℕ). a ++ b) c.all all;
    }

-- ---- a whole file

module _ {rooms : Rooms} {s : List ℕ} {o : Offer} (are : AreBytes s) (f : FileOf rooms s o) where
  pub file_bytes_lem : s ≡ file_bytes o
  unfolding file_bytes
  file_bytes_lem = (file_write_after_read (evidence_format rooms) s (numbers_of o) (length s) are f.read).bytes

  -- WHAT THE READER ACCEPTS: a valid offer, for which the buffers have room
  pub accepted_valid : Accepted rooms o
  accepted_valid = fits_accepted rooms o f.tabled f.paired (file_write_after_read (evidence_format rooms) s (numbers_of o) (length s) are f.read).fits

-- ---- the pairs behind the pattern's numbers

-- what was read behind them, by its parts
pub record Behind (lefts rights : ℕ) (s : List ℕ) (at m : ℕ) (us : List ℕ) (last n : ℕ) : Type 0 where
  pub few : m ≤ max_room
  pub in_lefts : m ≤ lefts
  pub in_rights : m ≤ rights
  pub count : length us ≡ 2 * m
  pub placed : at + length (encode m) ≤ last
  pub stand : reading (many (2 * m) (set_test n) ended) s (at + length (encode m)) ≡ got us last

pub read_behind : (n lefts rights : ℕ) (s : List ℕ) (at m : ℕ) (us : List ℕ) (last : ℕ) → AreBytes s → reading (pairs_format n lefts rights) s at ≡ got (m ∷ us) last
    → Behind lefts rights s at m us last n
unfolding pairs_format Fits encode_all
read_behind n lefts rights s at m us last are h =
    let r : ReadAs (pairs_format n lefts rights) (m ∷ us) s at last = write_after_reading (pairs_format n lefts rights) s at (m ∷ us) last are h in
    let (l, q) = (pair_room_fine lefts rights m).0 r.fits.2.0 in
    let bytes : drop at s ≡ encode m ++ (encode_all us ++ drop last s) = r.bytes ∙ append_assoc (encode m) (encode_all us) (drop last s) in
    record {
      few = (count_fine m).0 r.fits.1;
      in_lefts = l;
      in_rights = q;
      count = many_size (2 * m) (set_test n) us r.fits.2.1;
      placed = omega (arith, ends r.after);
      stand =
          reading_after_write (many (2 * m) (set_test n) ended) us s (at + length (encode m)) (drop last s) (behind s at (encode m) (encode_all us ++ drop last s) bytes) r.fits.2.1
          ∙ ap (got us) (ends r.after);
    }
  where
    ends : last ≡ at + length (encode m ++ encode_all us) → at + length (encode m) + length (encode_all us) ≡ last
    ends e = omega (arith, e, length-append (encode m) (encode_all us))
