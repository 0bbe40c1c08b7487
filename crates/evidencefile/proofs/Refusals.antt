-- What the writer refuses: by which numbers, and exactly where. Assumes nothing.
use Prim.Native.Nat.{ℕ}
use mathlib.Core.Logic.{◌↔◌}
use mathlib.Core.Path.{◌≡◌}
use lib.ListN.{length}
use Rattle.verdict.specs.Verdict.Verdict.{Fine}
use Rattle.verdict.specs.Tests.{Among}
use Rattle.verdict.specs.Lines.{GoesBy}
use Rattle.verdict.proofs.Ordered.{order_fine}
use Rattle.verdict.proofs.Lines.{no_lines, lines_then, lines_among}
use Rattle.pattern.proofs.Refusals.{space_line}
use Rattle.pattern.proofs.Validity.{space_fine}
use Rattle.evidence.specs.Evidence.{Offer}
use Rattle.evidence.proofs.Validity.{offer_valid}
use Rattle.evidence.proofs.Refusing.{check_lines_lem}
use Rattle.evidencefile.specs.EvidenceFile.{file_bytes}
use Rattle.evidencefile.specs.Writer.{write_test, Allowed}
use Rattle.evidencefile.specs.Refusals.{write_lines, write_numbers}

module _ (o : Offer) (room : ℕ) where
  -- refused exactly where a line applies, and by the first
  pub write_lines_lem : GoesBy (write_lines o room) (write_test o room)
  unfolding write_test
  write_lines_lem = lines_then _ (check_lines_lem o) (lines_then _ (space_line room (length (file_bytes o))) no_lines)

  -- and nothing is refused exactly where the offer is valid and the buffer has room
  pub write_fine : (write_test o room ≡ Fine) ↔ Allowed o room
  unfolding write_test
  write_fine = (
    λ e. let f = (order_fine _).0 e in record { valid = (offer_valid o).0 f.0; enough = (space_fine room _).0 f.1.0 },
    λ a. (order_fine _).1 ((offer_valid o).1 a.valid, ((space_fine room _).1 a.enough, tt)),
  )

  pub among_write : Among write_numbers (write_test o room)
  among_write = lines_among write_lines_lem
