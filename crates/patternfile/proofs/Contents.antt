-- What the numbers of a file are: those of a valid pattern and of two sets of its states, and no others; also where more follows them.
use Prim.Native.Nat.{ℕ, zero, suc, ◌+◌, ◌*◌, ◌^◌, ◌<◌, ◌≤◌}
use mathlib.Core.List.{List, [], ◌∷◌, ◌++◌, append_assoc}
use mathlib.Core.Path.{◌≡◌, refl, sym, ap, ◌∙◌, subst, fun_ext}
use native.Mathlib.Nat.{lt_of_lt_of_le}
use native.Mathlib.Omega.{arith}
use lib.ListN.{length, take, drop, get_or, take-append-drop}
use lib.Pow.{pow_mono}
use lib.Seq.{take_at, drop_at, drop-append_seam, length-take-le}
use Rattle.verdict.specs.Verdict.{Verdict}
use Rattle.verdict.specs.Verdict.Verdict.{Fine}
use Rattle.sets.specs.Sets.{Good}
use Rattle.pattern.specs.Pattern.{Pattern, Valid, pattern_of}
use Rattle.pattern.specs.Tests.{size_test, set_test, space_test}
use Rattle.pattern.proofs.Validity.{size_fine, sized_fine, set_fine, space_fine}
use Rattle.numbers.specs.Numbers.{encode, AreBytes}
use Rattle.numbers.specs.Format.{Format, ended, item, gate, many, got, refused, reading, encode_all, Fits}
use Rattle.numbers.proofs.Groups.{one_byte}
use Rattle.numbers.proofs.Formats.{ReadAs, reading_after_write, write_after_reading, file_got, file_write_after_read}
use Rattle.numbers.proofs.Parts.{FitsMany, fits_many, many_fits, followed_fits, encode_append, followed, many_followed}
use Rattle.numbers.proofs.Steps.{Reached, reached_part, stopped_part}
use Rattle.patternfile.specs.PatternFile.{numbers_of, file_bytes, starts_then, sets_then, pattern_then, pattern_format}
use Rattle.patternfile.specs.Reader.{FileOf}
use Rattle.patternfile.specs.Parts.{PartOf}

-- ---- the numbers that fit the format

-- several numbers that fit are each fine by the test
pub many_fine : (m : ℕ) (test : ℕ → Verdict) (vs : List ℕ) → Fits (many m test ended) vs → (i : ℕ) → i < length vs → test (get_or vs i 0) ≡ Fine
unfolding many Fits
many_fine zero test [] h i l = absurd (omega arith)
many_fine zero test (v ∷ vs) h i l = absurd h
many_fine (suc m) test [] h i l = absurd h
many_fine (suc m) test (v ∷ vs) h zero l = h.1
many_fine (suc m) test (v ∷ vs) h (suc i) l = many_fine m test vs h.2 i (omega arith)

pub fine_many : (test : ℕ → Verdict) (vs : List ℕ) → ((i : ℕ) → i < length vs → (get_or vs i 0 < 2 ^ 64) × (test (get_or vs i 0) ≡ Fine)) → Fits (many (length vs) test ended) vs
unfolding many Fits
fine_many test [] h = tt
fine_many test (v ∷ vs) h = ((h 0 (omega arith)).0, (h 0 (omega arith)).1, fine_many test vs (λ i l. h (suc i) (omega arith)))

-- what fits, by its parts
pub record Contents (room : ℕ) (P : Pattern) (x y : ℕ) : Type 0 where
  pub valid : Valid P
  pub enough : P.states * P.letters ≤ room
  pub rows_fit : Fits (many (P.states * P.letters) (set_test P.states) ended) P.rows
  pub good_x : Good P.states x
  pub good_y : Good P.states y

module _ (room : ℕ) (P : Pattern) (x y : ℕ) where
  abbrev n : ℕ
  n = P.states

  abbrev k : ℕ
  k = P.letters

  pub fits_contents : length P.rows ≡ n * k → Fits (pattern_format room) (numbers_of P x y) → Contents room P x y
  unfolding pattern_format pattern_then Fits
  fits_contents t h =
      let room_first : space_test room (n * k) ≡ Fine = h.2.2.0 in
      let m : FitsMany (n * k) (set_test n) (starts_then n ended) (P.rows ++ (x ∷ y ∷ [])) = fits_many (n * k) (set_test n) (starts_then n ended) (P.rows ++ (x ∷ y ∷ [])) h.2.2.1.2 in
      let rows : Fits (many (n * k) (set_test n) ended) P.rows = subst (λ (l : List ℕ). Fits (many (n * k) (set_test n) ended) l) (take_at P.rows (x ∷ y ∷ []) (n * k) t) m.first in
      let starts : Fits (starts_then n ended) (x ∷ y ∷ []) = subst (λ (l : List ℕ). Fits (starts_then n ended) l) (drop_at P.rows (x ∷ y ∷ []) (n * k) t) m.rest in
      record {
        valid =
            record {
              sized = sized_fine h.1 h.2.1;
              tabled = t;
              finals_good = (set_fine n P.finals).0 h.2.2.1.1;
              rows_good = λ i l. (set_fine n (get_or P.rows i 0)).0 (many_fine (n * k) (set_test n) P.rows rows i l);
            };
        enough = (space_fine room (n * k)).0 room_first;
        rows_fit = rows;
        good_x = (set_fine n x).0 starts.1;
        good_y = (set_fine n y).0 starts.2.1;
      }

  pub contents_fit : Valid P → Good n x → Good n y → n * k ≤ room → Fits (pattern_format room) (numbers_of P x y)
  unfolding pattern_format pattern_then Fits
  contents_fit v gx gy enough = (
    omega (arith, v.sized.states_fit),
    (size_fine 64 n).1 (v.sized.some_state, v.sized.states_fit),
    (omega (arith, v.sized.letters_fit), (size_fine 32 k).1 (v.sized.some_letter, v.sized.letters_fit), ((space_fine room (n * k)).1 enough, finals)),
  )
    where
      small : (mask : ℕ) → Good n mask → mask < 2 ^ 64
      small mask g = lt_of_lt_of_le g.below (pow_mono v.sized.states_fit)

      fine : (mask : ℕ) → Good n mask → set_test n mask ≡ Fine
      fine mask g = (set_fine n mask).1 g

      rows : Fits (many (n * k) (set_test n) ended) P.rows
      rows = rw (← v.tabled) (fine_many (set_test n) P.rows (λ i l. (small _ (v.rows_good i l), fine _ (v.rows_good i l))))

      finals : Fits (sets_then n k ended) (P.finals ∷ (P.rows ++ (x ∷ y ∷ [])))
      finals = (
        small P.finals v.finals_good,
        fine P.finals v.finals_good,
        many_fits (n * k) (set_test n) (starts_then n ended) P.rows (x ∷ y ∷ []) rows (small x gx, fine x gx, (small y gy, fine y gy, tt)),
      )

-- numbers that fit are those of a pattern and of two sets
pub record NumbersOf (us : List ℕ) : Type 0 where
  pub pattern : Pattern
  pub x : ℕ
  pub y : ℕ
  pub tabled : length pattern.rows ≡ pattern.states * pattern.letters
  pub all : us ≡ numbers_of pattern x y

fits_starts : (n : ℕ) (us : List ℕ) → Fits (starts_then n ended) us → (x : ℕ) × (y : ℕ) × (us ≡ x ∷ y ∷ [])
unfolding Fits
fits_starts n [] h = absurd h
fits_starts n (x ∷ []) h = absurd h.2
fits_starts n (x ∷ y ∷ []) h = (x, y, refl)
fits_starts n (x ∷ y ∷ z ∷ us) h = absurd h.2.2

pub fits_numbers : (room : ℕ) (us : List ℕ) → Fits (pattern_format room) us → NumbersOf us
unfolding pattern_format pattern_then Fits
fits_numbers room [] h = absurd h
fits_numbers room (n ∷ []) h = absurd h.2
fits_numbers room (n ∷ k ∷ []) h = absurd h.2.2.1
fits_numbers room (n ∷ k ∷ f ∷ us) h =
    let m : FitsMany (n * k) (set_test n) (starts_then n ended) us = fits_many (n * k) (set_test n) (starts_then n ended) us h.2.2.1.2 in
    let (x, y, e) = fits_starts n (drop (n * k) us) m.rest in
    record {
      pattern = pattern_of n k f (take (n * k) us);
      x = x;
      y = y;
      tabled = length-take-le (n * k) us m.enough;
      all = ap (λ (l : List ℕ). n ∷ k ∷ f ∷ l) (sym (take-append-drop (n * k) us) ∙ ap (λ (l : List ℕ). take (n * k) us ++ l) e);
    }

-- ---- the pattern's numbers at the start of some bytes

module _ {room : ℕ} {s : List ℕ} {P : Pattern} {x y end : ℕ} (are : AreBytes s) (f : PartOf room s P x y end) where
  read_as : ReadAs (pattern_format room) (numbers_of P x y) s 0 end
  read_as = write_after_reading (pattern_format room) s 0 (numbers_of P x y) end are f.read

  pub part_valid : Contents room P x y
  part_valid = fits_contents room P x y f.tabled read_as.fits

  abbrev starts : List ℕ
  starts = x ∷ y ∷ []

  -- what stands behind the rows
  abbrev beyond : List ℕ
  beyond = encode_all starts ++ drop end s

  behind_finals : encode_all (P.rows ++ starts) ++ drop end s ≡ encode_all P.rows ++ beyond
  behind_finals = ap (λ (l : List ℕ). l ++ drop end s) (encode_append P.rows starts) ∙ append_assoc (encode_all P.rows) (encode_all starts) (drop end s)

  -- n and k are one byte each
  head_bytes : s ≡ P.states ∷ P.letters ∷ (encode P.finals ++ (encode_all P.rows ++ beyond))
  unfolding encode_all
  head_bytes =
      let v = part_valid.valid.sized in
      let a : P.states < 128 = omega (arith, v.states_fit) in
      let b : P.letters < 128 = omega (arith, v.letters_fit) in
      let rest = encode P.finals ++ encode_all (P.rows ++ starts) in
      read_as.bytes
      ∙ ap (λ (l : List ℕ). (l ++ (encode P.letters ++ rest)) ++ drop end s) (one_byte P.states a)
      ∙ ap (λ (l : List ℕ). P.states ∷ ((l ++ rest) ++ drop end s)) (one_byte P.letters b)
      ∙ ap (λ (l : List ℕ). P.states ∷ P.letters ∷ l) (append_assoc (encode P.finals) (encode_all (P.rows ++ starts)) (drop end s) ∙ ap (λ (l : List ℕ). encode P.finals ++ l) behind_finals)

  -- so the rows stand two bytes and the finals' bytes behind the start
  rows_at : drop (2 + length (encode P.finals)) s ≡ encode_all P.rows ++ beyond
  rows_at =
      let m : 2 + length (encode P.finals) ≡ suc (suc (length (encode P.finals))) = omega arith in
      rw m (ap (drop (suc (suc (length (encode P.finals))))) head_bytes ∙ drop-append_seam (encode P.finals) (encode_all P.rows ++ beyond))

  pub rows_stand : reading (many (P.states * P.letters) (set_test P.states) ended) s (2 + length (encode P.finals))
      ≡ got P.rows (2 + length (encode P.finals) + length (encode_all P.rows))
  rows_stand =
      reading_after_write (many (P.states * P.letters) (set_test P.states) ended) P.rows s (2 + length (encode P.finals)) beyond rows_at part_valid.rows_fit

-- ---- a whole file

-- it is the pattern's numbers, and nothing behind them
pub file_part : {room : ℕ} {s : List ℕ} {P : Pattern} {x y : ℕ} → FileOf room s P x y → PartOf room s P x y (length s)
file_part {room} {s} {P} {x} {y} f = record { tabled = f.tabled; read = (file_got (pattern_format room) s (numbers_of P x y) (length s) f.read).0 }

module _ {room : ℕ} {s : List ℕ} {P : Pattern} {x y : ℕ} (are : AreBytes s) (f : FileOf room s P x y) where
  pub file_bytes_lem : s ≡ file_bytes P x y
  unfolding file_bytes
  file_bytes_lem = (file_write_after_read (pattern_format room) s (numbers_of P x y) (length s) are f.read).bytes

  -- WHAT THE READER ACCEPTS: a valid pattern with two sets of its states, whose rows have room
  pub accepted_valid : Contents room P x y
  accepted_valid = part_valid are (file_part f)

-- ---- a file that goes on behind the pattern's numbers

pub first : List ℕ → ℕ
first us = get_or us 0 0

pub pattern_followed : (room : ℕ) (more : ℕ → Format) → pattern_then room more ≡ followed (pattern_format room) (λ us. more (first us))
unfolding pattern_format pattern_then followed first
pattern_followed room more =
    ap (item (size_test 64)) (fun_ext (λ n. ap (item (size_test 32)) (fun_ext (λ k. ap (λ (f : Format). gate (space_test room (n * k)) (item (set_test n) (λ finals. f)))
    (many_followed (n * k) (set_test n) (starts_then n ended) (more n))))))

module _ (room : ℕ) (more : ℕ → Format) (s : List ℕ) where
  -- behind the pattern's numbers reading goes on with what follows
  pub part_then : {P : Pattern} {x y end : ℕ} → PartOf room s P x y end → Reached (pattern_then room more) s 0 (numbers_of P x y) (more P.states) end
  unfolding first
  part_then f = rw (pattern_followed room more) (reached_part (pattern_format room) (λ us. more (first us)) s 0 f.read)

  -- what is refused of them is refused of the whole
  pub part_stopped : {w place : ℕ} → reading (pattern_format room) s 0 ≡ refused w place → reading (pattern_then room more) s 0 ≡ refused w place
  part_stopped q = rw (pattern_followed room more) (stopped_part (pattern_format room) (λ us. more (first us)) s 0 q)

-- numbers that fit the whole fit by their parts
pub record FitsPart (room : ℕ) (P : Pattern) (x y : ℕ) (g : Format) (us : List ℕ) : Type 0 where
  pub part : Fits (pattern_format room) (numbers_of P x y)
  pub rest : Fits g us

module _ (room : ℕ) (more : ℕ → Format) (P : Pattern) (x y : ℕ) (us : List ℕ) where
  pub fits_part : length P.rows ≡ P.states * P.letters → Fits (pattern_then room more) (numbers_of P x y ++ us) → FitsPart room P x y (more P.states) us
  unfolding pattern_format pattern_then Fits
  fits_part t h =
      let n = P.states in
      let count = P.states * P.letters in
      let all = (P.rows ++ (x ∷ y ∷ [])) ++ us in
      let m : FitsMany count (set_test n) (starts_then n (more n)) all = fits_many count (set_test n) (starts_then n (more n)) all h.2.2.1.2 in
      let parts : all ≡ P.rows ++ (x ∷ y ∷ us) = append_assoc P.rows (x ∷ y ∷ []) us in
      let rows : Fits (many count (set_test n) ended) P.rows =
      subst (λ (l : List ℕ). Fits (many count (set_test n) ended) l) (ap (take count) parts ∙ take_at P.rows (x ∷ y ∷ us) count t) m.first in
      let starts : Fits (starts_then n (more n)) (x ∷ y ∷ us) =
      subst (λ (l : List ℕ). Fits (starts_then n (more n)) l) (ap (drop count) parts ∙ drop_at P.rows (x ∷ y ∷ us) count t) m.rest in
      record {
        part = (
          h.0,
          h.1,
          (h.2.0, h.2.1, (h.2.2.0, (h.2.2.1.0, h.2.2.1.1, many_fits count (set_test n) (starts_then n ended) P.rows (x ∷ y ∷ []) rows (starts.0, starts.1, (starts.2.0, starts.2.1, tt))))),
        );
        rest = starts.2.2;
      }

  pub part_fits : Fits (pattern_format room) (numbers_of P x y) → Fits (more P.states) us → Fits (pattern_then room more) (numbers_of P x y ++ us)
  unfolding first
  part_fits h k = rw (pattern_followed room more) (followed_fits (pattern_format room) (λ vs. more (first vs)) (numbers_of P x y) us h k)
