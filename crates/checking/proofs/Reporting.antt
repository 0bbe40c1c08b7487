-- From what asking and putting ensure to what is reported. Assumes nothing.
use mathlib.Core.Path.{sym}
use mathlib.Core.List.{List, ◌∷◌, []}
use Prim.Native.Nat.{ℕ, ◌≤◌}
use native.Mathlib.Omega.{arith}
use lib.ListN.{length}
use lib.Seq.{length-take-le}
use Rattle.lent.specs.Lent.{Put}
use Rattle.lent.proofs.Putting.{put_length}
use Rattle.evidence.specs.Evidence.{Offer, Checked}
use Rattle.evidence.specs.declared.Answer.{Answer}
use Rattle.evidence.specs.declared.Answer.TheVariants.{Proved, NotProved}
use Rattle.std.specs.Prelude.{Ok, Err}
use Rattle.verdict.specs.declared.Fault.{Fault}
use Rattle.verdict.specs.Refusals.{number}
use Rattle.evidencefile.specs.EvidenceFile.{Lists}
use Rattle.text.specs.Text.{word, refusal_text}
use Rattle.text.proofs.Lines.{head_short}
use Rattle.checking.specs.Checking.{proved_text, not_proved_text, Offers, Answers, Prints, longest, Reported}
use Rattle.checking.specs.Inner.{answer_text}

-- a text that was put
pub reported : {input text old : List ℕ} {r : ℕ} {new : List ℕ} → Prints input text → Put old 0 text r new → Reported input old r new
reported {r = r} {new} prints put =
    let within : r ≤ length new = omega (arith, put.within, put_length put) in
    record { text = _; prints = prints; put = put; within = within; counted = sym (length-take-le r new within) }

pub refusal_printed : {input : List ℕ} {old new : Lists} {fault : Fault} → Answers input old (Err fault) new → Prints input (refusal_text (number fault.why) fault.place)
refusal_printed (Answers.refuses r) = Prints.refuses r

by_answer : {input : List ℕ} {o : Offer} (a : Answer) → Offers input o → Checked o (Ok a) → Prints input (answer_text a)
by_answer Proved f k = Prints.proved f k
by_answer (NotProved place) f k = Prints.not_proved f k

pub answer_printed : {input : List ℕ} {old new : Lists} {answer : Answer} → Answers input old (Ok answer) new → Prints input (answer_text answer)
answer_printed (Answers.answers {a = a} f k) = by_answer a f k

-- ---- there is room

pub answer_short : (answer : Answer) → length (answer_text answer) ≤ longest
unfolding proved_text not_proved_text
answer_short Proved = omega (arith, head_short (word "PROVED") [])
answer_short (NotProved place) = omega (arith, head_short (word "NOT-PROVED") (place ∷ []))
