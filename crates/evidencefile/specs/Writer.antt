-- What writing an evidence file answers, and what it leaves in the byte buffer lent. The answer is that of the pattern file's writer.
--   write_test o room      the tests, in the scope's order: 10, 11, 16, 12, 14 (`write_lines_lem`: what each refusal means)
--   Allowed o room         what passes them all (`write_fine`)
--   Writes o old r new     the writer's promise: the answer r, and the buffer `new` where it was `old`; nothing is left open (`writer_determined`),
--                          and with the reader it goes round both ways (`read_after_write`, `write_after_read`)
use Rattle.std.specs.Prelude.{ℕ, ◌≤◌, List, [], ◌∷◌, ◌≡◌, length, Result, Ok, Err}
use Rattle.verdict.specs.declared.Refusal.{Refusal}
use Rattle.verdict.specs.Verdict.{Verdict}
use Rattle.verdict.specs.Verdict.Verdict.{Fine, Against}
use Rattle.verdict.specs.Tests.{in_order}
use Rattle.verdict.specs.Refusals.{number}
use Rattle.lent.specs.Lent.{Put}
use Rattle.pattern.specs.Tests.{space_test}
use Rattle.evidence.specs.Evidence.{Offer, ValidOffer, check_test}
use Rattle.evidencefile.specs.EvidenceFile.{file_bytes}

unfoldable pub write_test : Offer → ℕ → Verdict
write_test o room = in_order (check_test o ∷ space_test room (length (file_bytes o)) ∷ [])

-- what the writer refuses nothing of (`write_fine`)
pub record Allowed (o : Offer) (room : ℕ) : Type 0 where
  pub valid : ValidOffer o
  pub enough : length (file_bytes o) ≤ room

-- DONE: the file stands at the start of the buffer, and the bytes after it keep their content
pub record WriteDone (o : Offer) (old : List ℕ) (count : ℕ) (new : List ℕ) : Type 0 where
  pub allowed : write_test o (length old) ≡ Fine
  pub written : Put old 0 (file_bytes o) count new

-- a refusal: the first test that fails, and no byte changed
pub record WriteRefused (o : Offer) (old : List ℕ) (w : ℕ) (new : List ℕ) : Type 0 where
  pub against : write_test o (length old) ≡ Against w
  pub unchanged : new ≡ old

abbrev pub Writes : Offer → List ℕ → Result ℕ Refusal → List ℕ → Type 0
Writes o old (Ok count) new = WriteDone o old count new
Writes o old (Err why) new = WriteRefused o old (number why) new
