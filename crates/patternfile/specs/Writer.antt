-- What writing a pattern file answers, and what it leaves in the byte buffer lent.
--   write_test P x y room    the tests, in the scope's order: 10, 11, 12, 14 (`write_lines_lem`: what each refusal means)
--   Allowed P x y room       what passes them all (`write_fine`)
--   Writes P x y old r new   the writer's promise: the answer r, and the buffer `new` where it was `old`; nothing is left open (`writer_determined`),
--                            and with the reader it goes round both ways (`read_after_write`, `write_after_read`)
--   number_of r, count_of r   the number of an answer, and the byte count returned with it (`write_honest`)
--   IsRefused r              the answer is a refusal
use Rattle.std.specs.Prelude.{ℕ, ◌≤◌, List, [], ◌∷◌, ◌≡◌, length, Result, Ok, Err}
use Rattle.verdict.specs.declared.Refusal.{Refusal}
use Rattle.verdict.specs.Verdict.{Verdict}
use Rattle.verdict.specs.Verdict.Verdict.{Fine, Against}
use Rattle.verdict.specs.Tests.{in_order}
use Rattle.verdict.specs.Refusals.{number}
use Rattle.lent.specs.Lent.{Put}
use Rattle.sets.specs.Sets.{Good}
use Rattle.pattern.specs.Pattern.{Pattern, Valid}
use Rattle.pattern.specs.Tests.{pattern_test, set_test, space_test}
use Rattle.patternfile.specs.PatternFile.{file_bytes}

unfoldable pub write_test : Pattern → ℕ → ℕ → ℕ → Verdict
write_test P x y room = in_order (pattern_test P ∷ set_test P.states x ∷ set_test P.states y ∷ space_test room (length (file_bytes P x y)) ∷ [])

-- what the writer refuses nothing of (`write_fine`)
pub record Allowed (P : Pattern) (x y room : ℕ) : Type 0 where
  pub valid : Valid P
  pub good_x : Good P.states x
  pub good_y : Good P.states y
  pub enough : length (file_bytes P x y) ≤ room

-- DONE: the file stands at the start of the buffer, and the bytes after it keep their content
pub record WriteDone (P : Pattern) (x y : ℕ) (old : List ℕ) (count : ℕ) (new : List ℕ) : Type 0 where
  pub allowed : write_test P x y (length old) ≡ Fine
  pub written : Put old 0 (file_bytes P x y) count new

-- a refusal: the first test that fails, and no byte changed
pub record WriteRefused (P : Pattern) (x y : ℕ) (old : List ℕ) (w : ℕ) (new : List ℕ) : Type 0 where
  pub against : write_test P x y (length old) ≡ Against w
  pub unchanged : new ≡ old

abbrev pub Writes : Pattern → ℕ → ℕ → List ℕ → Result ℕ Refusal → List ℕ → Type 0
Writes P x y old (Ok count) new = WriteDone P x y old count new
Writes P x y old (Err why) new = WriteRefused P x y old (number why) new

abbrev pub number_of : Result ℕ Refusal → ℕ
number_of (Ok count) = 7
number_of (Err why) = number why

abbrev pub count_of : Result ℕ Refusal → ℕ
count_of (Ok count) = count
count_of (Err why) = 0

abbrev pub IsRefused : Result ℕ Refusal → Type 0
IsRefused (Ok count) = ⊥
IsRefused (Err why) = Unit {0}
