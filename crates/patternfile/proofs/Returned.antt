-- The numbers that the two calls return, and what they mean: 7 is DONE, and every other is a refusal by one of the call's own numbers. Assumes nothing.
use Prim.Native.Nat.{ℕ, ◌≤◌}
use mathlib.Core.Bool.{false}
use mathlib.Core.List.{List, Memᴰ}
use mathlib.Core.Path.{◌≡◌, refl, ap, ◌∙◌, subst}
use native.Mathlib.Nat.{zero-add}
use native.Mathlib.Omega.{arith}
use lib.ListN.{length}
use Rattle.std.specs.Prelude.{Result, Ok, Err}
use Rattle.verdict.specs.declared.Refusal.{Refusal}
use Rattle.verdict.specs.declared.Fault.{Fault}
use Rattle.verdict.specs.Verdict.Verdict.{Against}
use Rattle.verdict.specs.Refusals.{number}
use Rattle.verdict.specs.Tests.{need, Among}
use Rattle.verdict.proofs.Ordered.{apart, one_number}
use Rattle.verdict.proofs.Numbered.{among_need, among_from}
use Rattle.lent.specs.Lent.{lay}
use Rattle.lent.proofs.Putting.{put_laid}
use Rattle.pattern.specs.Pattern.{Pattern}
use Rattle.numbers.specs.Numbers.{AreBytes}
use Rattle.patternfile.specs.declared.PatternNumbers.{PatternNumbers}
use Rattle.patternfile.specs.Reader as Reader
use Rattle.patternfile.specs.Reader.{Reads, FileOf, with_rows, found_in}
use Rattle.patternfile.specs.Writer.{Writes, Allowed}
use Rattle.patternfile.specs.Refusals.{RefusedAt, bad_states, bad_letters, no_room, bad_set, cut, padded, too_big, tail, read_numbers, write_numbers}
use Rattle.patternfile.specs.Meaning.{Readable, values_at, HonestRead, HonestWrite}
use Rattle.patternfile.proofs.Contents.{Contents, accepted_valid, file_bytes_lem}
use Rattle.patternfile.proofs.Refusals.{write_lines_lem, write_fine, among_write}
use Rattle.patternfile.proofs.Determined.{reader_determined}
use Rattle.patternfile.proofs.RoundTrip.{file_of}
use Rattle.patternfile.proofs.Places.{refusal_place, refusal_exactly}

-- ---- the reader

refused_number : {room : ℕ} {s : List ℕ} {w place : ℕ} → RefusedAt room s w place → Memᴰ w read_numbers
refused_number (bad_states e h) = Memᴰ.head refl
refused_number (bad_letters e h) = Memᴰ.head refl
refused_number (bad_set e f h) = Memᴰ.tail (Memᴰ.head refl)
refused_number (no_room e f h) = Memᴰ.tail (Memᴰ.tail (Memᴰ.head refl))
refused_number (cut h) = Memᴰ.tail (Memᴰ.tail (Memᴰ.tail (Memᴰ.head refl)))
refused_number (padded h) = Memᴰ.tail (Memᴰ.tail (Memᴰ.tail (Memᴰ.tail (Memᴰ.head refl))))
refused_number (tail P x y l f) = Memᴰ.tail (Memᴰ.tail (Memᴰ.tail (Memᴰ.tail (Memᴰ.tail (Memᴰ.head refl)))))
refused_number (too_big h) = Memᴰ.tail (Memᴰ.tail (Memᴰ.tail (Memᴰ.tail (Memᴰ.tail (Memᴰ.tail (Memᴰ.head refl))))))

-- a refusal has one of the reader's numbers
pub read_number : {s old new : List ℕ} (f : Fault) → AreBytes s → Reads s old (Err f) new → Among read_numbers (Against (number f.why))
unfolding need
read_number f are h = among_need read_numbers false (number f.why) (refused_number (refusal_place f are h))

module _ (s old : List ℕ) (are : AreBytes s) where
  high : (r : Result PatternNumbers Fault) (new : List ℕ) → Reads s old r new → Reader.IsRefused r → 10 ≤ Reader.number_of r
  high (Err f) new h i = among_from 10 refl (read_number f are h) refl
  high (Ok f) new h i = elim i [ ]

  -- a file gets DONE, with its values and rows
  file_done : (r : Result PatternNumbers Fault) (new : List ℕ) → Reads s old r new → (f : Readable (length old) s)
      → (r ≡ Ok (found_in f.pattern f.x f.y)) × (new ≡ lay f.pattern.rows old)
  file_done r new h f =
      let P = f.pattern in
      let whole : FileOf (length old) s P f.x f.y = rw f.file (file_of (length old) P f.x f.y f.valid f.good_x f.good_y f.enough) in
      reader_determined s old r (Ok (found_in P f.x f.y)) new (lay P.rows old) h
      (record { rows = P.rows; file = record { tabled = whole.tabled; read = whole.read }; written = refl })

  -- and only a file does
  done_file : (r : Result PatternNumbers Fault) (new : List ℕ) → Reads s old r new → Reader.number_of r ≡ 7 → Readable (length old) s
  done_file (Err f) new h e = absurd (omega (arith, high (Err f) new h tt))
  done_file (Ok f) new d e =
      let c : Contents (length old) (with_rows f d.rows) f.x f.y = accepted_valid are d.file in
      record {
        pattern = with_rows f d.rows;
        x = f.x;
        y = f.y;
        valid = c.valid;
        good_x = c.good_x;
        good_y = c.good_y;
        enough = c.enough;
        file = file_bytes_lem are d.file;
      }

  no_file : (r : Result PatternNumbers Fault) (new : List ℕ) → Reads s old r new → (Readable (length old) s → ⊥) → Reader.IsRefused r
  no_file (Err f) new h g = tt
  no_file (Ok f) new h g = g (done_file (Ok f) new h refl)

  reason : (r : Result PatternNumbers Fault) (new : List ℕ) → Reads s old r new → Reader.IsRefused r → RefusedAt (length old) s (Reader.number_of r) (Reader.values_of r).place
  reason (Err f) new h i = refusal_place f are h
  reason (Ok f) new h i = elim i [ ]

  quiet : (r : Result PatternNumbers Fault) (new : List ℕ) → Reads s old r new → Reader.IsRefused r
      → (Reader.values_of r ≡ values_at (Reader.values_of r).place) × (new ≡ old)
  quiet (Err f) new h i = (refl, h.unchanged)
  quiet (Ok f) new h i = elim i [ ]

  -- an answer of the reader means what its number says
  pub read_honest : (r : Result PatternNumbers Fault) (new : List ℕ) → Reads s old r new → HonestRead s old r new
  read_honest r new h =
      record {
        done = (done_file r new h, λ f. ap Reader.number_of (file_done r new h f).0);
        returned = λ f. let (e, l) = file_done r new h f in (ap Reader.values_of e, l);
        refused = (λ i f. subst Reader.IsRefused (file_done r new h f).0 i, no_file r new h);
        refused_by = λ w place. refusal_exactly s old r new are h;
        reason = reason r new h;
        high = high r new h;
        quiet = quiet r new h;
      }

-- ---- the writer

-- a refusal has one of the writer's numbers
pub write_number : {P : Pattern} {x y : ℕ} {old : List ℕ} (why : Refusal) {new : List ℕ} → Writes P x y old (Err why) new → Among write_numbers (Against (number why))
write_number {P} {x} {y} {old} why h = rw (← h.against) (among_write P x y (length old))

-- an answer of the writer means what its number says
pub write_honest : (P : Pattern) (x y : ℕ) (old : List ℕ) (r : Result ℕ Refusal) (new : List ℕ) → Writes P x y old r new → HonestWrite P x y old r new
write_honest P x y old (Ok count) new h =
    let allowed : Allowed P x y (length old) = (write_fine P x y (length old)).0 h.allowed in
    record {
      done = (λ e. allowed, λ a. refl);
      returned = λ e. (h.written.ends ∙ zero-add _, put_laid h.written);
      refused = (λ i. absurd i, λ f. f allowed);
      refused_by = λ w. (λ p. absurd p.0, λ p. apart h.allowed (((write_lines_lem P x y (length old)).against w).1 p));
      high = λ i. absurd i;
      quiet = λ i. absurd i;
    }
write_honest P x y old (Err why) new h =
    let least : 10 ≤ number why = among_from 10 refl (write_number why h) refl in
    record {
      done = (λ e. absurd (omega (arith, least)), λ a. apart ((write_fine P x y (length old)).1 a) h.against);
      returned = λ e. absurd (omega (arith, least));
      refused = (λ i a. apart ((write_fine P x y (length old)).1 a) h.against, λ f. tt);
      refused_by = λ w. (
        λ p. ((write_lines_lem P x y (length old)).against w).0 (h.against ∙ ap Against p.1),
        λ p. (tt, one_number h.against (((write_lines_lem P x y (length old)).against w).1 p)),
      );
      high = λ i. least;
      quiet = λ i. (refl, h.unchanged);
    }
