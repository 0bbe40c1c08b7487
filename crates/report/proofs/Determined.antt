-- `prints_determined`, `reports_determined`: the bytes taken in and the room say what is printed, and what the byte buffer then holds. Assumes nothing.
use mathlib.Core.Path.{◌≡◌, ap, subst}
use mathlib.Core.List.{List}
use Prim.Native.Nat.{ℕ}
use Rattle.lent.specs.Lent.{Put}
use Rattle.lent.proofs.Putting.{put_determined}
use Rattle.asking.proofs.Questions.{asked_or_refused, one_refusal}
use Rattle.asking.proofs.Determined.{one_outcome}
use Rattle.report.specs.Report.{text_of, Prints, Reported}
use Rattle.report.specs.Report.Prints.{refuses, answers}

pub prints_determined : {room : ℕ} {input text text' : List ℕ} → Prints room input text → Prints room input text' → text ≡ text'
prints_determined {input = input} (refuses r) (refuses s) = let (number, place) = one_refusal input r s in rw (number, place)
prints_determined (refuses r) (answers a w) = absurd (asked_or_refused a r)
prints_determined (answers a w) (refuses r) = absurd (asked_or_refused a r)
prints_determined (answers a v) (answers b w) = ap text_of (one_outcome a b v w)

pub reports_determined : {room : ℕ} {input old : List ℕ} {r r' : ℕ} {new new' : List ℕ} → Reported room input old r new → Reported room input old r' new'
    → (r ≡ r') × (new ≡ new')
reports_determined {old = old} {r = r} {new = new} p q =
    put_determined (subst (λ (t : List ℕ). Put old 0 t r new) (prints_determined p.prints q.prints) p.put) q.put
