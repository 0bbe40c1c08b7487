-- The whole reader: the first pass over the pattern's numbers and over the pairs, and what the second pass then leaves.
use Prim.Native.Nat.{ℕ, ◌+◌, ◌*◌, ◌<◌, ◌≤◌}
use mathlib.Core.List.{List, ◌∷◌, ◌++◌}
use mathlib.Core.Path.{◌≡◌, refl, sym, ap, ap₂, ◌∙◌}
use native.Mathlib.Omega.{arith}
use lib.ListN.{length}
use Rattle.std.specs.Prelude.{Ok}
use Rattle.lent.specs.Lent.{lay}
use Rattle.pattern.specs.Tests.{set_test}
use Rattle.numbers.specs.declared.Placed.{Placed}
use Rattle.numbers.specs.Numbers.{encode, AreBytes}
use Rattle.numbers.specs.Format.{Reading, got, refused, reading, file_reading, encode_all}
use Rattle.numbers.proofs.Formats.{file_write_after_read}
use Rattle.numbers.proofs.Parts.{before_all}
use Rattle.numbers.proofs.Steps.{file_stopped, file_tail, file_whole}
use Rattle.patternfile.specs.declared.PatternPart.{PatternPart}
use Rattle.patternfile.specs.PatternFile as PatternFile
use Rattle.patternfile.specs.PatternFile.{pattern_format}
use Rattle.patternfile.specs.Reader.{with_rows}
use Rattle.patternfile.specs.Parts.{Judges, Filled}
use Rattle.patternfile.proofs.Contents.{part_valid, rows_stand, part_then, part_stopped}
use Rattle.evidencefile.specs.declared.EvidenceNumbers.{EvidenceNumbers}
use Rattle.evidencefile.specs.EvidenceFile.{Lists, lists_of, rooms_of, numbers_of, pairs_format, evidence_format}
use Rattle.evidencefile.specs.Reader.{ReadDone, ReadRefused, with_lists}
use Rattle.evidencefile.specs.Parts.{Counts, FilledPairs}
use Rattle.evidencefile.proofs.Sides.{Parted, parted}
use Rattle.evidencefile.proofs.Contents.{Behind, read_behind}

module _ (s : List ℕ) (old : Lists) where
  pub reads_stopped : {w place : ℕ} → reading (pattern_format (length old.rows)) s 0 ≡ refused w place → ReadRefused s old w place old
  unfolding evidence_format
  reads_stopped q =
      let stopped = part_stopped (length old.rows) (λ n. pairs_format n (length old.lefts) (length old.rights)) s q in
      record { fault = file_stopped (evidence_format (rooms_of old)) s stopped; unchanged = refl }

  module _ (part : PatternPart) (found : Judges s (length old.rows) (Ok part)) where
    abbrev behind : Reading
    behind = reading (pairs_format part.numbers.states (length old.lefts) (length old.rights)) s part.end

    abbrev head : List ℕ
    head = PatternFile.numbers_of (with_rows part.numbers found.0) part.numbers.x part.numbers.y

    goes_on : reading (evidence_format (rooms_of old)) s 0 ≡ before_all head behind
    unfolding evidence_format
    goes_on = (part_then (length old.rows) (λ n. pairs_format n (length old.lefts) (length old.rights)) s found.1).same

    pub reads_fault : {w place : ℕ} → behind ≡ refused w place → ReadRefused s old w place old
    reads_fault q = record { fault = file_stopped (evidence_format (rooms_of old)) s (goes_on ∙ ap (before_all head) q); unchanged = refl }

    module _ (count : Placed) (listed : Counts behind (Ok count)) where
      all_read : reading (evidence_format (rooms_of old)) s 0 ≡ got (head ++ (count.value ∷ listed.0)) count.next
      all_read = goes_on ∙ ap (before_all head) listed.1

      pub reads_tail : count.next < length s → ReadRefused s old 22 count.next old
      reads_tail h = record { fault = file_tail (evidence_format (rooms_of old)) s all_read h; unchanged = refl }

      module _ (are : AreBytes s) where
        pairs_behind : Behind (length old.lefts) (length old.rights) s part.end count.value listed.0 count.next part.numbers.states
        pairs_behind = read_behind part.numbers.states (length old.lefts) (length old.rights) s part.end count.value listed.0 count.next are listed.1

        -- what the second pass needs
        pub reads_rows : part.numbers.states * part.numbers.letters ≤ length old.rows
        reads_rows = (part_valid are found.1).enough

        pub reads_lefts : count.value ≤ length old.lefts
        reads_lefts = pairs_behind.in_lefts

        pub reads_rights : count.value ≤ length old.rights
        reads_rights = pairs_behind.in_rights

        sides : Parted count.value listed.0
        sides = parted count.value listed.0 pairs_behind.count

        module _ (h : length s ≤ count.next) where
          takes_all : count.next ≡ length s
          takes_all =
              let w = file_whole (evidence_format (rooms_of old)) s all_read h in
              (file_write_after_read (evidence_format (rooms_of old)) s (head ++ (count.value ∷ listed.0)) count.next are w).takes_all

          pub reads_placed : part.end + length (encode count.value) ≤ length s
          reads_placed = omega (arith, pairs_behind.placed, takes_all)

          abbrev found_all : EvidenceNumbers
          found_all = record { pattern = part.numbers; pairs = count.value }

          whole : file_reading (evidence_format (rooms_of old)) s ≡ got (numbers_of (with_lists found_all found.0 sides.lefts sides.rights)) (length s)
          whole =
              file_whole (evidence_format (rooms_of old)) s all_read h
              ∙ ap (got (head ++ (count.value ∷ listed.0))) takes_all
              ∙ ap₂ (λ (c : ℕ) (t : List ℕ). got (head ++ (c ∷ t)) (length s)) (sym sides.lefts_are) sides.all

          pub reads_done : {rows lefts rights : List ℕ} {at_rows at_pairs : ℕ} → at_rows ≡ 2 + length (encode part.numbers.finals) → at_pairs ≡ part.end + length (encode count.value)
              → Filled s at_rows (part.numbers.states * part.numbers.letters) old.rows rows → FilledPairs s at_pairs count.value old.lefts old.rights lefts rights
              → ReadDone s old found_all (lists_of rows lefts rights)
          reads_done {rows} {lefts} {rights} a b f g =
              let n = part.numbers.states in
              let laid : rows ≡ lay found.0 old.rows =
              f.filled (set_test n) found.0 (2 + length (encode part.numbers.finals) + length (encode_all found.0)) (rw a (rows_stand are found.1)) in
              let (l, r) =
              g.filled (set_test n) sides.lefts sides.rights count.next (sides.lefts_are ∙ sym sides.rights_are)
              (rw b (pairs_behind.stand ∙ ap (λ (t : List ℕ). got t count.next) sides.all)) in
              record {
                rows = found.0;
                lefts = sides.lefts;
                rights = sides.rights;
                file = record { tabled = found.1.tabled; paired = sides.lefts_are ∙ sym sides.rights_are; read = whole };
                counted = sym sides.lefts_are;
                written = rw (laid, l, r) refl;
              }
