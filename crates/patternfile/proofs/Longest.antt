-- The longest file has 20,512 bytes: none is longer, one is as long, and taking in 20,513 bytes never changes an answer.
use Prim.Native.Nat.{ℕ, zero, suc, ◌+◌, ◌*◌, ◌-◌, ◌^◌, ◌<◌, ◌≤◌}
use mathlib.Core.List.{List, [], ◌∷◌, ◌++◌}
use mathlib.Core.Path.{◌≡◌, refl, ap, ◌∙◌}
use native.Mathlib.Nat.{mul-le-mul}
use native.Mathlib.Omega.{arith}
use lib.ListN.{length, take, drop, length-append, length-drop, replicate, length-replicate, get_or-replicate}
use Rattle.sets.specs.Sets.{Good}
use Rattle.pattern.specs.Pattern.{Pattern, Valid, pattern_of}
use Rattle.pattern.specs.Tests.{size_test, set_test, space_test}
use Rattle.pattern.proofs.Validity.{size_fine}
use Rattle.verdict.specs.Verdict.Verdict.{Fine}
use Rattle.numbers.specs.Numbers.{encode, encode_in, number_at, AreBytes}
use Rattle.numbers.specs.Format.{ended, item, many, unless_refused, reading, file_reading, encode_all, Fits}
use Rattle.numbers.proofs.Groups.{one_byte}
use Rattle.numbers.proofs.RoundTrip.{Found, write_after_read}
use Rattle.numbers.proofs.TenBytes.{encode_ten}
use Rattle.numbers.proofs.ListLoops.{all_ten}
use Rattle.numbers.proofs.Formats.{Held, file_write_after_read}
use Rattle.numbers.proofs.Parts.{FitsMany, fits_many, encode_append}
use Rattle.numbers.proofs.Reach.{Short, short_more, short_many, item_reach, reach, cap_reach}
use Rattle.patternfile.specs.PatternFile.{numbers_of, file_bytes, starts_then, sets_then, after_letters, pattern_then, pattern_format}
use Rattle.patternfile.specs.Reader.{FileOf}
use Rattle.patternfile.proofs.Contents.{contents_fit}
use Rattle.patternfile.proofs.RoundTrip.{file_of}

-- ---- no file is longer

two_starts : (n : ℕ) (us : List ℕ) → Fits (starts_then n ended) us → length us ≡ 2
unfolding Fits
two_starts n [] h = absurd h
two_starts n (x ∷ []) h = absurd h.2
two_starts n (x ∷ y ∷ []) h = refl
two_starts n (x ∷ y ∷ z ∷ us) h = absurd h.2.2

-- n and k one byte each, ten bytes for each set
at_most : (n k f : ℕ) (us : List ℕ) → size_test 64 n ≡ Fine → size_test 32 k ≡ Fine → Fits (many (n * k) (set_test n) (starts_then n ended)) us → length (encode_all (n ∷ k ∷ f ∷ us)) ≤ 20512
unfolding encode_all
at_most n k f us p q h =
    let m : FitsMany (n * k) (set_test n) (starts_then n ended) us = fits_many (n * k) (set_test n) (starts_then n ended) us h in
    let two : length (drop (n * k) us) ≡ 2 = two_starts n (drop (n * k) us) m.rest in
    let most : n * k ≤ 64 * 32 = mul-le-mul ((size_fine 64 n).0 p).1 ((size_fine 32 k).0 q).1 in
    let one : n < 128 = omega (arith, ((size_fine 64 n).0 p).1) in
    let other : k < 128 = omega (arith, ((size_fine 32 k).0 q).1) in
    omega (
      arith,
      m.enough,
      two,
      length-drop (n * k) us,
      ap length (one_byte n one),
      ap length (one_byte k other),
      encode_ten f,
      all_ten us,
      length-append (encode f) (encode_all us),
      length-append (encode k) (encode f ++ encode_all us),
      length-append (encode n) (encode k ++ (encode f ++ encode_all us)),
    )

pub fits_short : (room : ℕ) (vs : List ℕ) → Fits (pattern_format room) vs → length (encode_all vs) ≤ 20512
unfolding pattern_format pattern_then Fits
fits_short room [] h = absurd h
fits_short room (n ∷ []) h = absurd h.2
fits_short room (n ∷ k ∷ []) h = absurd h.2.2.1
fits_short room (n ∷ k ∷ f ∷ us) h = at_most n k f us h.1 h.2.1 h.2.2.1.2

-- neither the file of a valid pattern with two sets of its states, nor anything that is read as a file
pub file_short : (P : Pattern) (x y : ℕ) → Valid P → Good P.states x → Good P.states y → length (file_bytes P x y) ≤ 20512
unfolding file_bytes
file_short P x y v gx gy = let n = P.states * P.letters in fits_short n (numbers_of P x y) (contents_fit n P x y v gx gy (omega arith))

pub no_longer : {room : ℕ} {s : List ℕ} {P : Pattern} {x y : ℕ} → AreBytes s → FileOf room s P x y → length s ≤ 20512
no_longer {room} {s} {P} {x} {y} are f =
    let i = file_write_after_read (pattern_format room) s (numbers_of P x y) (length s) are f.read in
    omega (arith, ap length i.bytes, fits_short room (numbers_of P x y) i.fits)

-- ---- one file is as long: 64 states, 32 letters, and every set of all 64 states

abbrev pub all_states : ℕ
all_states = 2 ^ 64 - 1

pub ten_each : (j : ℕ) → length (encode_all (replicate j all_states)) ≡ 10 * j
unfolding encode_all encode encode_in
ten_each zero = refl
ten_each (suc j) = omega (arith, ten_each j, length-append (encode all_states) (encode_all (replicate j all_states)))

pub record AsLong (room : ℕ) (P : Pattern) (x y : ℕ) : Type 0 where
  pub file : FileOf room (file_bytes P x y) P x y
  pub valid : Valid P
  pub bytes : length (file_bytes P x y) ≡ 20512

pub as_long : (j : ℕ) → j ≡ 64 * 32 → AsLong j (pattern_of 64 32 all_states (replicate j all_states)) all_states all_states
unfolding file_bytes encode_all encode encode_in
as_long j e =
    record {
      file = file_of j (pattern_of 64 32 all_states (replicate j all_states)) all_states all_states valid good good (omega arith);
      valid = valid;
      bytes = omega (arith, ten_each j, ap length (encode_append (replicate j all_states) (all_states ∷ all_states ∷ [])), length-append (encode_all (replicate j all_states)) (encode_all (all_states ∷ all_states ∷ [])));
    }
  where
    good : Good 64 all_states
    good = record { below = omega arith }

    valid : Valid (pattern_of 64 32 all_states (replicate j all_states))
    valid =
        record {
          sized = record { some_state = omega arith; states_fit = omega arith; some_letter = omega arith; letters_fit = omega arith };
          tabled = length-replicate j all_states ∙ e;
          finals_good = good;
          rows_good = λ i l. rw (get_or-replicate j i all_states 0 (rw (length-replicate j all_states) at l)) good;
        }

pub one_as_long : AsLong 2048 (pattern_of 64 32 all_states (replicate 2048 all_states)) all_states all_states
one_as_long = as_long 2048 refl

-- ---- what stands behind the longest file does not matter

one_byte_on : (most : ℕ) (s : List ℕ) (at v next : ℕ) → most < 128 → AreBytes s → Held (size_test most) at (number_at s at) v next → next ≡ at + 1
one_byte_on most s at v next m are h =
    let f : Found s at v next = write_after_read s at v next are h.form in
    let b : v < 128 = omega (arith, ((size_fine most v).0 h.range).1) in
    omega (arith, f.after, ap length (one_byte v b))

sets_short : (n k : ℕ) → n ≤ 64 → k ≤ 32 → Short 2051 (sets_then n k ended)
unfolding Short
sets_short n k a b =
    let p : n * k ≤ 64 * 32 = mul-le-mul a b in
    let two : Short 2 (starts_then n ended) = λ x q y r. tt in
    λ f q. short_more (n * k + 2) 2050 (many (n * k) (set_test n) (starts_then n ended)) (omega arith) (short_many (n * k) 2 (set_test n) (starts_then n ended) two)

module _ (room : ℕ) (s : List ℕ) (are : AreBytes s) (c : ℕ) (longest : 20512 ≤ c) where
  sets_reach : (n k at : ℕ) → at ≡ 2 → n ≤ 64 → k ≤ 32 → reading (after_letters room n k ended) (take c s) at ≡ reading (after_letters room n k ended) s at
  unfolding reading
  sets_reach n k at e p q =
      ap (unless_refused (space_test room (n * k)) at)
      (reach (sets_then n k ended) 2051 s at c are (sets_short n k p q) (omega arith))

  letters_reach : (n at : ℕ) → at ≡ 1 → n ≤ 64 → reading (item (size_test 32) (λ k. after_letters room n k ended)) (take c s) at ≡ reading (item (size_test 32) (λ k. after_letters room n k ended)) s at
  letters_reach n at e p =
      item_reach (size_test 32) (λ k. after_letters room n k ended) s at c (omega arith)
      (λ k next h. sets_reach n k next (omega (arith, one_byte_on 32 s at k next (omega arith) are h)) p ((size_fine 32 k).0 h.range).1)

  pub pattern_reach : reading (pattern_format room) (take c s) 0 ≡ reading (pattern_format room) s 0
  unfolding pattern_format pattern_then
  pattern_reach =
      item_reach (size_test 64) (λ n. item (size_test 32) (λ k. after_letters room n k ended)) s 0 c (omega arith)
      (λ n next h. letters_reach n next (omega (arith, one_byte_on 64 s 0 n next (omega arith) are h)) ((size_fine 64 n).0 h.range).1)

pub cap_changes_nothing : (room : ℕ) (s : List ℕ) → AreBytes s → file_reading (pattern_format room) (take 20513 s) ≡ file_reading (pattern_format room) s
cap_changes_nothing room s are =
    cap_reach (pattern_format room) s 20513 are (pattern_reach room s are 20513 (omega arith)) (λ vs f. omega (arith, fits_short room vs f))
