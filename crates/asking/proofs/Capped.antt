-- `cap_answers_the_same`: taking in at most 20,513 bytes never changes what is asked, refused or answered. Assumes nothing.
use mathlib.Core.Path.{◌≡◌, sym, ◌∙◌, subst}
use mathlib.Core.List.{List}
use Prim.Native.Nat.{ℕ}
use native.Mathlib.Decide.{dec_le}
use native.Mathlib.Omega.{arith}
use lib.ListN.{length, take}
use lib.Seq.{take_all, length-take-le}
use Rattle.numbers.specs.Numbers.{AreBytes}
use Rattle.numbers.proofs.Formats.{file_write_after_read}
use Rattle.patternfile.specs.PatternFile.{numbers_of, pattern_format}
use Rattle.patternfile.proofs.Longest.{cap_changes_nothing}
use Rattle.walk.specs.Walk.{Question}
use Rattle.comparison.specs.Answers.{Lent}
use Rattle.asking.specs.Asking.{Asked, row_room, Asks, Refuses, Answers}
use Rattle.asking.specs.Asking.Answers.{refuses, answers}

module _ {s : List ℕ} (are : AreBytes s) where
  -- what is cut off is not part of a file
  pub cap_asks_the_same : {Q : Question} → Asks (take 20513 s) Q → Asks s Q
  cap_asks_the_same {Q} a =
      elim (dec_le (length s) 20513) [
        | yes l ↦ subst (λ (t : List ℕ). Asks t Q) (take_all 20513 s l) a
        | no l ↦
            let size : length (take 20513 s) ≡ 20513 = length-take-le 20513 s (omega arith) in
            let read = sym (cap_changes_nothing row_room s are) ∙ a.read in
            let all = (file_write_after_read (pattern_format row_room) s (numbers_of Q.pattern Q.left Q.right) (length (take 20513 s)) are read).takes_all in
            absurd (omega (arith, size, all))
      ]

  pub cap_refuses_the_same : {number place : ℕ} → Refuses (take 20513 s) number place → Refuses s number place
  cap_refuses_the_same r = sym (cap_changes_nothing row_room s are) ∙ r

pub cap_answers_the_same : {s : List ℕ} {room : ℕ} {rows : List ℕ} {lent : Lent} {a : Asked} {rows' : List ℕ} {l : Lent} → AreBytes s
    → Answers room (take 20513 s) rows lent a rows' l → Answers room s rows lent a rows' l
cap_answers_the_same are (refuses r) = refuses (cap_refuses_the_same are r)
cap_answers_the_same are (answers a w) = answers (cap_asks_the_same are a) w
