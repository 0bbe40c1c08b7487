-- `cap_prints_the_same`: taking in at most 40,995 bytes never changes what is printed. Assumes nothing.
use mathlib.Core.Path.{◌≡◌, sym, ◌∙◌, subst}
use mathlib.Core.List.{List}
use Prim.Native.Nat.{ℕ}
use native.Mathlib.Decide.{dec_le}
use native.Mathlib.Omega.{arith}
use lib.ListN.{length, take}
use lib.Seq.{take_all, length-take-le}
use Rattle.numbers.specs.Numbers.{AreBytes}
use Rattle.numbers.proofs.Formats.{file_write_after_read}
use Rattle.evidence.specs.Evidence.{Offer}
use Rattle.evidencefile.specs.EvidenceFile.{numbers_of, evidence_format}
use Rattle.evidencefile.proofs.Longest.{cap_changes_nothing}
use Rattle.checking.specs.Checking.{most_rooms, Offers, Refuses, Prints}
use Rattle.checking.specs.Checking.Prints.{refuses, proved, not_proved}

module _ {s : List ℕ} (are : AreBytes s) where
  -- what is cut off is not part of a file
  cap_offers_the_same : {o : Offer} → Offers (take 40995 s) o → Offers s o
  cap_offers_the_same {o} f =
      elim (dec_le (length s) 40995) [
        | yes l ↦ subst (λ (t : List ℕ). Offers t o) (take_all 40995 s l) f
        | no l ↦
            let size : length (take 40995 s) ≡ 40995 = length-take-le 40995 s (omega arith) in
            let read = sym (cap_changes_nothing most_rooms s are) ∙ f.read in
            let all = (file_write_after_read (evidence_format most_rooms) s (numbers_of o) (length (take 40995 s)) are read).takes_all in
            absurd (omega (arith, size, all))
      ]

  cap_refuses_the_same : {number place : ℕ} → Refuses (take 40995 s) number place → Refuses s number place
  cap_refuses_the_same r = sym (cap_changes_nothing most_rooms s are) ∙ r

  pub cap_prints_the_same : {text : List ℕ} → Prints (take 40995 s) text → Prints s text
  cap_prints_the_same (refuses r) = refuses (cap_refuses_the_same r)
  cap_prints_the_same (proved f k) = proved (cap_offers_the_same f) k
  cap_prints_the_same (not_proved f k) = not_proved (cap_offers_the_same f) k
