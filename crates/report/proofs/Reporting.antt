-- From what asking and putting ensure to what is reported. Assumes nothing.
use mathlib.Core.Path.{◌≡◌, refl, sym}
use mathlib.Core.List.{List}
use Prim.Native.Nat.{ℕ, ◌+◌, ◌≤◌}
use native.Mathlib.Omega.{arith}
use lib.ListN.{length}
use lib.Seq.{length-take-le}
use Rattle.lent.specs.declared.Page.{Page}
use Rattle.lent.specs.Lent.{Put}
use Rattle.lent.proofs.Putting.{put_length}
use Rattle.numbers.specs.Numbers.{AreBytes}
use Rattle.comparison.specs.declared.Answer.{Answer}
use Rattle.walk.specs.Walk.{Question, Outcome, kept_of, word_of}
use Rattle.walk.specs.Walk.Outcome.{Same, Different, Full}
use Rattle.walk.specs.Columns.{Field, Fit}
use Rattle.walk.proofs.Columns.{fit_at, fit_less}
use Rattle.comparison.specs.Answers.{number_of, values_of, Lent, answer_of}
use Rattle.comparison.specs.Meaning.{Roomy, Honest}
use Rattle.comparison.proofs.Standing.{laid_long}
use Rattle.comparison.proofs.CompareRoom.{kept_is}
use Rattle.lent.proofs.Laying.{length_lay}
use Rattle.std.specs.Prelude.{Ok, Err}
use Rattle.verdict.specs.declared.Fault.{Fault}
use Rattle.verdict.specs.Refusals.{number}
use Rattle.asking.specs.Asking.{Asks, call_for, Answers}
use Rattle.asking.proofs.Answering.{answers_honest}
use Rattle.text.specs.Text.{refusal_text}
use Rattle.report.specs.Report.{Prints, longest, Reported}
use Rattle.report.specs.Report.Prints.{refuses, answers}
use Rattle.report.specs.Inner.{answer_text, Printable}
use Rattle.report.proofs.Answered.{answer_text_lem}

-- a text that was put
pub reported : {room : ℕ} {input text old : List ℕ} {r : ℕ} {new : List ℕ} → Prints room input text → Put old 0 text r new → Reported room input old r new
reported {r = r} {new} prints put =
    let within : r ≤ length new = omega (arith, put.within, put_length put) in
    record { text = _; prints = prints; put = put; within = within; counted = sym (length-take-le r new within) }

pub refusal_printed : {room : ℕ} {input rows : List ℕ} {lent : Lent} {rows' : List ℕ} {l : Lent} {fault : Fault}
    → Answers room input rows lent (Err fault) rows' l → Prints room input (refusal_text (number fault.why) fault.place)
refusal_printed (Answers.refuses r) = refuses r

pub answer_printed : {room : ℕ} {input rows : List ℕ} {lent : Lent} {rows' : List ℕ} {l : Lent} {answer : Answer}
    → Answers room input rows lent (Ok answer) rows' l → Prints room input (answer_text answer l.columns.lefts l.columns.rights l.sequence)
answer_printed {lent = lent} (Answers.answers {Q} {o} a w) = rw (answer_text_lem o lent) (answers a w)

-- what was lent is as long afterwards, so an answer names no more than there is
word_size : (o : Outcome) → (values_of (answer_of o)).length ≡ length (word_of o)
word_size (Same kept examined) = refl
word_size (Different kept examined word) = refl
word_size (Full kept examined) = refl

pub answer_printable : {room : ℕ} {input rows : List ℕ} {lent : Lent} {rows' : List ℕ} {l : Lent} {answer : Answer} {page : Page}
    → AreBytes input → Roomy room lent → Answers room input rows lent (Ok answer) rows' l → page.at + longest room ≤ length page.out.now
    → Printable answer l.columns.lefts l.columns.rights l.sequence page
answer_printable are roomy told fits = from are roomy told (answers_honest are roomy told) fits
  where
    from : {room : ℕ} {input rows : List ℕ} {lent : Lent} {rows' : List ℕ} {l : Lent} {answer : Answer} {page : Page} → AreBytes input → Roomy room lent
        → Answers room input rows lent (Ok answer) rows' l
        → (Q : Question) × Asks input Q × (number_of (Ok answer) ≤ 2) × Honest (call_for Q room lent) (Ok answer) l → page.at + longest room ≤ length page.out.now
        → Printable answer l.columns.lefts l.columns.rights l.sequence page
    from {room} {lent = lent} are roomy (Answers.answers {Q} {o} a w) (question, asks, low, honest) fits =
        let columns : Fit (length (kept_of o)) lent.columns = fit_less (omega (arith, honest.kept_fits, kept_is o)) roomy.columns_fit in
        let lefts = laid_long (kept_of o) lent.columns columns Field.left in
        let rights = laid_long (kept_of o) lent.columns columns Field.right in
        let word = length_lay (word_of o) lent.sequence (omega (arith, honest.kept_fits, honest.length_fits, word_size o, roomy.sequence_fits)) in
        record {
          lefts_there = omega (arith, honest.kept_fits, lefts, fit_at roomy.columns_fit Field.left);
          rights_there = omega (arith, honest.kept_fits, rights, fit_at roomy.columns_fit Field.right);
          sequence_there = omega (arith, honest.kept_fits, honest.length_fits, word, roomy.sequence_fits);
          short = honest.length_fits;
          text_fits = omega (arith, honest.kept_fits);
        }
