-- The numbers that the two calls return, and what they mean: 7 is DONE, and every other is a refusal by one of the call's own numbers. Assumes nothing.
use Prim.Native.Nat.{ℕ, ◌≤◌}
use mathlib.Core.Bool.{false}
use mathlib.Core.List.{List, Memᴰ}
use mathlib.Core.Path.{◌≡◌, refl, sym, ap, ◌∙◌, subst}
use native.Mathlib.Nat.{zero-add}
use native.Mathlib.Omega.{arith}
use lib.ListN.{length}
use Rattle.std.specs.Prelude.{Result, Ok, Err}
use Rattle.verdict.specs.declared.Refusal.{Refusal}
use Rattle.verdict.specs.declared.Fault.{Fault}
use Rattle.verdict.specs.Verdict.Verdict.{Against}
use Rattle.verdict.specs.Refusals.{number}
use Rattle.verdict.specs.Tests.{need, Among}
use Rattle.verdict.proofs.Ordered.{apart, one_number}
use Rattle.verdict.proofs.Numbered.{among_need, among_from}
use Rattle.lent.proofs.Putting.{put_laid}
use Rattle.numbers.specs.Numbers.{AreBytes}
use Rattle.patternfile.specs.Refusals as PatternFile
use Rattle.evidence.specs.Evidence.{Offer}
use Rattle.evidencefile.specs.declared.EvidenceNumbers.{EvidenceNumbers}
use Rattle.evidencefile.specs.EvidenceFile.{Rooms, Lists, rooms_of, lay_offer}
use Rattle.evidencefile.specs.Reader as Reader
use Rattle.evidencefile.specs.Reader.{Reads, FileOf, with_lists, found_of}
use Rattle.evidencefile.specs.Writer.{Writes, Allowed}
use Rattle.evidencefile.specs.Refusals.{RefusedAt, in_pattern, bad_list, no_room, bad_set, cut, padded, too_big, tail, read_numbers, write_numbers}
use Rattle.evidencefile.specs.Meaning.{Readable, values_at, HonestRead, HonestWrite}
use Rattle.evidencefile.proofs.Contents.{Accepted, accepted_valid, file_bytes_lem}
use Rattle.evidencefile.proofs.Refusals.{write_lines_lem, write_fine, among_write}
use Rattle.evidencefile.proofs.Determined.{reader_determined}
use Rattle.evidencefile.proofs.RoundTrip.{file_of}
use Rattle.evidencefile.proofs.Places.{refusal_place, refusal_exactly}

-- ---- the reader

of_pattern : {room : ℕ} {s : List ℕ} {w place : ℕ} → PatternFile.RefusedAt room s w place → Memᴰ w read_numbers
of_pattern (PatternFile.bad_states e h) = Memᴰ.head refl
of_pattern (PatternFile.bad_letters e h) = Memᴰ.head refl
of_pattern (PatternFile.bad_set e f h) = Memᴰ.tail (Memᴰ.head refl)
of_pattern (PatternFile.no_room e f h) = Memᴰ.tail (Memᴰ.tail (Memᴰ.head refl))
of_pattern (PatternFile.cut h) = Memᴰ.tail (Memᴰ.tail (Memᴰ.tail (Memᴰ.tail (Memᴰ.head refl))))
of_pattern (PatternFile.padded h) = Memᴰ.tail (Memᴰ.tail (Memᴰ.tail (Memᴰ.tail (Memᴰ.tail (Memᴰ.head refl)))))
of_pattern (PatternFile.tail P x y l f) = Memᴰ.tail (Memᴰ.tail (Memᴰ.tail (Memᴰ.tail (Memᴰ.tail (Memᴰ.tail (Memᴰ.head refl))))))
of_pattern (PatternFile.too_big h) = Memᴰ.tail (Memᴰ.tail (Memᴰ.tail (Memᴰ.tail (Memᴰ.tail (Memᴰ.tail (Memᴰ.tail (Memᴰ.head refl)))))))

refused_number : {rooms : Rooms} {s : List ℕ} {w place : ℕ} → RefusedAt rooms s w place → Memᴰ w read_numbers
refused_number (in_pattern q h) = of_pattern h
refused_number (bad_set p q h) = Memᴰ.tail (Memᴰ.head refl)
refused_number (no_room p q h) = Memᴰ.tail (Memᴰ.tail (Memᴰ.head refl))
refused_number (bad_list p q h) = Memᴰ.tail (Memᴰ.tail (Memᴰ.tail (Memᴰ.head refl)))
refused_number (cut h) = Memᴰ.tail (Memᴰ.tail (Memᴰ.tail (Memᴰ.tail (Memᴰ.head refl))))
refused_number (padded h) = Memᴰ.tail (Memᴰ.tail (Memᴰ.tail (Memᴰ.tail (Memᴰ.tail (Memᴰ.head refl)))))
refused_number (tail o l f) = Memᴰ.tail (Memᴰ.tail (Memᴰ.tail (Memᴰ.tail (Memᴰ.tail (Memᴰ.tail (Memᴰ.head refl))))))
refused_number (too_big h) = Memᴰ.tail (Memᴰ.tail (Memᴰ.tail (Memᴰ.tail (Memᴰ.tail (Memᴰ.tail (Memᴰ.tail (Memᴰ.head refl)))))))

-- a refusal has one of the reader's numbers
pub read_number : {s : List ℕ} {old new : Lists} (f : Fault) → AreBytes s → Reads s old (Err f) new → Among read_numbers (Against (number f.why))
unfolding need
read_number f are h = among_need read_numbers false (number f.why) (refused_number (refusal_place f are h))

module _ (s : List ℕ) (old : Lists) (are : AreBytes s) where
  high : (r : Result EvidenceNumbers Fault) (new : Lists) → Reads s old r new → Reader.IsRefused r → 10 ≤ Reader.number_of r
  high (Err f) new h i = among_from 10 refl (read_number {s = s} {old = old} {new = new} f are h) refl
  high (Ok f) new h i = elim i [ ]

  -- a file gets DONE, with its values, rows and sides
  file_done : (r : Result EvidenceNumbers Fault) (new : Lists) → Reads s old r new → (f : Readable (rooms_of old) s)
      → (r ≡ Ok (found_of f.offer)) × (new ≡ lay_offer f.offer old)
  file_done r new h f =
      let o = f.offer in
      let file : FileOf (rooms_of old) s o =
      subst (λ (t : List ℕ). FileOf (rooms_of old) t o) (sym f.file)
      (file_of (rooms_of old) o (record { valid = f.valid; rows_fit = f.rows_fit; lefts_fit = f.lefts_fit; rights_fit = f.rights_fit })) in
      reader_determined s old r (Ok (found_of o)) new (lay_offer o old) h
      (record { rows = o.pattern.rows; lefts = o.lefts; rights = o.rights; file = file; counted = refl; written = refl })

  -- and DONE only a file gets
  done_file : (r : Result EvidenceNumbers Fault) (new : Lists) → Reads s old r new → Reader.number_of r ≡ 7 → Readable (rooms_of old) s
  done_file (Err f) new h e = absurd (omega (arith, high (Err f) new h tt, e))
  done_file (Ok f) new d e =
      let a : Accepted (rooms_of old) (with_lists f d.rows d.lefts d.rights) = accepted_valid are d.file in
      record {
        offer = with_lists f d.rows d.lefts d.rights;
        valid = a.valid;
        rows_fit = a.rows_fit;
        lefts_fit = a.lefts_fit;
        rights_fit = a.rights_fit;
        file = file_bytes_lem are d.file;
      }

  no_file : (r : Result EvidenceNumbers Fault) (new : Lists) → Reads s old r new → (Readable (rooms_of old) s → ⊥) → Reader.IsRefused r
  no_file (Err f) new h g = tt
  no_file (Ok f) new h g = g (done_file (Ok f) new h refl)

  reason : (r : Result EvidenceNumbers Fault) (new : Lists) → Reads s old r new → Reader.IsRefused r → RefusedAt (rooms_of old) s (Reader.number_of r) (Reader.values_of r).place
  reason (Err f) new h i = refusal_place {s = s} {old = old} {new = new} f are h
  reason (Ok f) new h i = elim i [ ]

  quiet : (r : Result EvidenceNumbers Fault) (new : Lists) → Reads s old r new → Reader.IsRefused r
      → (Reader.values_of r ≡ values_at (Reader.values_of r).place) × (new ≡ old)
  quiet (Err f) new h i = (refl, h.unchanged)
  quiet (Ok f) new h i = elim i [ ]

  -- an answer of the reader means what its number says
  pub read_honest : (r : Result EvidenceNumbers Fault) (new : Lists) → Reads s old r new → HonestRead s old r new
  read_honest r new h =
      record {
        done = (done_file r new h, λ f. ap Reader.number_of (file_done r new h f).0);
        returned = λ f. let (e, l) = file_done r new h f in (ap Reader.values_of e, l);
        refused = (λ i f. subst Reader.IsRefused (file_done r new h f).0 i, no_file r new h);
        refused_by = λ w place. refusal_exactly s old r new are h;
        reason = reason r new h;
        high = high r new h;
        quiet = quiet r new h;
      }

-- ---- the writer

-- a refusal has one of the writer's numbers
pub write_number : {o : Offer} {old : List ℕ} (why : Refusal) {new : List ℕ} → Writes o old (Err why) new → Among write_numbers (Against (number why))
write_number {o} {old} why h = rw (← h.against) (among_write o (length old))

-- an answer of the writer means what its number says
pub write_honest : (o : Offer) (old : List ℕ) (r : Result ℕ Refusal) (new : List ℕ) → Writes o old r new → HonestWrite o old r new
write_honest o old (Ok count) new h =
    let allowed : Allowed o (length old) = (write_fine o (length old)).0 h.allowed in
    record {
      done = (λ e. allowed, λ a. refl);
      returned = λ e. (h.written.ends ∙ zero-add _, put_laid h.written);
      refused = (λ i. absurd i, λ f. f allowed);
      refused_by = λ w. (λ p. absurd p.0, λ p. apart h.allowed (((write_lines_lem o (length old)).against w).1 p));
      high = λ i. absurd i;
      quiet = λ i. absurd i;
    }
write_honest o old (Err why) new h =
    let least : 10 ≤ number why = among_from 10 refl (write_number {o = o} {old = old} why {new = new} h) refl in
    record {
      done = (λ e. absurd (omega (arith, least)), λ a. apart ((write_fine o (length old)).1 a) h.against);
      returned = λ e. absurd (omega (arith, least));
      refused = (λ i a. apart ((write_fine o (length old)).1 a) h.against, λ f. tt);
      refused_by = λ w. (
        λ p. ((write_lines_lem o (length old)).against w).0 (h.against ∙ ap Against p.1),
        λ p. (tt, one_number h.against (((write_lines_lem o (length old)).against w).1 p)),
      );
      high = λ i. least;
      quiet = λ i. (refl, h.unchanged);
    }
