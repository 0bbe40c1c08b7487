-- What the writer refuses: by which numbers, and exactly where. Assumes nothing.
use Prim.Native.Nat.{ℕ}
use mathlib.Core.Logic.{◌↔◌}
use mathlib.Core.Path.{◌≡◌}
use lib.ListN.{length}
use Rattle.verdict.specs.Verdict.Verdict.{Fine}
use Rattle.verdict.specs.Tests.{Among}
use Rattle.verdict.specs.Lines.{GoesBy}
use Rattle.verdict.specs.Lines.Lines.{none, line}
use Rattle.verdict.proofs.Lines.{no_lines, lines_then, same_number, lines_among}
use Rattle.pattern.specs.Pattern.{Pattern}
use Rattle.pattern.specs.Refusals.{MasksGood, shape_lines}
use Rattle.pattern.proofs.Refusals.{set_line, space_line, pattern_lines_lem}
use Rattle.patternfile.specs.PatternFile.{file_bytes}
use Rattle.patternfile.specs.Writer.{write_test, Allowed}
use Rattle.patternfile.specs.Refusals.{write_lines, write_numbers}

module _ (P : Pattern) (x y room : ℕ) where
  -- refused exactly where a line applies, and by the first
  pub write_lines_lem : GoesBy (write_lines P x y room) (write_test P x y room)
  unfolding write_test
  write_lines_lem =
      same_number (shape_lines P none) 12 _ (λ p. (p.0, p.1.0, p.1.1), λ q. (q.0, (q.1, q.2)))
      (same_number (shape_lines P (line 12 (MasksGood P) none)) 12 _ (λ p. p, λ p. p)
      (lines_then _ (pattern_lines_lem P) (lines_then _ (set_line P.states x) (lines_then _ (set_line P.states y) (lines_then _ (space_line room (length (file_bytes P x y))) no_lines)))))

  -- and nothing is refused exactly where the pattern is valid, X and Y are sets of its states and the buffer has room
  pub write_fine : (write_test P x y room ≡ Fine) ↔ Allowed P x y room
  write_fine = (
    λ e.
        let (sized, (tabled, ((masks, gx, gy), (enough, _)))) = write_lines_lem.fine.0 e in
        record { valid = record { sized = sized; tabled = tabled; finals_good = masks.0; rows_good = masks.1 }; good_x = gx; good_y = gy; enough = enough },
    λ a. let v = a.valid in write_lines_lem.fine.1 (v.sized, (v.tabled, (((v.finals_good, v.rows_good), a.good_x, a.good_y), (a.enough, tt)))),
  )

  pub among_write : Among write_numbers (write_test P x y room)
  among_write = lines_among write_lines_lem
