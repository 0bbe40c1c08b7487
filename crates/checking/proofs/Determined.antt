-- `prints_determined`, `reports_determined`, `answers_determined`: the bytes taken in say what is printed, and what all that is lent then holds. Assumes nothing.
use mathlib.Core.Path.{◌≡◌, refl, sym, ap, ◌∙◌, subst}
use mathlib.Core.List.{List}
use Prim.Native.Nat.{ℕ}
use native.Mathlib.Omega.{arith}
use Rattle.lent.specs.Lent.{Put}
use Rattle.lent.proofs.Putting.{put_determined}
use Rattle.numbers.specs.Format.{refused}
use Rattle.numbers.proofs.Formats.{refused_got}
use Rattle.evidence.specs.Evidence.{Offer, Checked, place_of, number_of}
use Rattle.evidence.specs.declared.Answer.{Answer}
use Rattle.evidence.proofs.Determined.{check_determined}
use Rattle.evidencefile.specs.EvidenceFile.{Lists, lay_offer}
use Rattle.evidencefile.proofs.Determined.{one_offer}
use Rattle.std.specs.Prelude.{Result, Ok, Err}
use Rattle.verdict.specs.declared.Refusal.{Refusal}
use Rattle.verdict.specs.declared.Fault.{Fault}
use Rattle.verdict.proofs.Refusals as Named
use Rattle.checking.specs.Checking.{Asked, Offers, Refuses, Answers, not_proved_text, Prints, Reported}
use Rattle.checking.specs.Checking.Prints.{refuses, proved, not_proved}

offered_or_refused : {A : Type 0} {input : List ℕ} {o : Offer} {number place : ℕ} → Offers input o → Refuses input number place → A
offered_or_refused f r = absurd (refused_got (sym r ∙ f.read))

one_refusal : (input : List ℕ) {number place number' place' : ℕ} → Refuses input number place → Refuses input number' place' → (number ≡ number') × (place ≡ place')
one_refusal input {number} {place} {number'} {place'} r s = let e : refused number place ≡ refused number' place' = sym r ∙ s in (cc, cc)

one_answer : {input : List ℕ} {o p : Offer} {a b : Result Answer Refusal} → Offers input o → Offers input p → Checked o a → Checked p b → a ≡ b
one_answer {b = b} f g j k = check_determined j (subst (λ (o : Offer). Checked o b) (one_offer g f) k)

pub answers_determined : {input : List ℕ} {old new new' : Lists} {a b : Asked} → Answers input old a new → Answers input old b new' → (a ≡ b) × (new ≡ new')
answers_determined {input} (Answers.refuses r) (Answers.refuses s) =
    let (w, place) = one_refusal input r s in
    let why = Named.one_refusal w in
    (ap (λ (f : Fault). Err f) (λ i. record { why = why i; place = place i }), refl)
answers_determined (Answers.refuses r) (Answers.answers f k) = offered_or_refused f r
answers_determined (Answers.answers f k) (Answers.refuses r) = offered_or_refused f r
answers_determined {old = old} (Answers.answers {a = a} f j) (Answers.answers {a = b} g k) = (let e : ◌≡◌ {A = Result Answer Refusal} (Ok a) (Ok b) = one_answer f g j k in let z : a ≡ b = cc in ap (λ (r : Answer). Ok r) z, ap (λ (o : Offer). lay_offer o old) (one_offer f g))

pub prints_determined : {input text text' : List ℕ} → Prints input text → Prints input text' → text ≡ text'
prints_determined {input} (refuses r) (refuses s) = let (number, place) = one_refusal input r s in rw (number, place) refl
prints_determined (refuses r) (proved f k) = offered_or_refused f r
prints_determined (refuses r) (not_proved f k) = offered_or_refused f r
prints_determined (proved f k) (refuses r) = offered_or_refused f r
prints_determined (proved f j) (proved g k) = refl
prints_determined (proved f j) (not_proved g k) = absurd (let e = ap number_of (one_answer f g j k) in omega (arith, e))
prints_determined (not_proved f k) (refuses r) = offered_or_refused f r
prints_determined (not_proved f j) (proved g k) = absurd (let e = ap number_of (one_answer f g j k) in omega (arith, e))
prints_determined (not_proved f j) (not_proved g k) = ap not_proved_text (ap place_of (one_answer f g j k))

pub reports_determined : {input old : List ℕ} {r r' : ℕ} {new new' : List ℕ} → Reported input old r new → Reported input old r' new' → (r ≡ r') × (new ≡ new')
reports_determined {old = old} {r = r} {new = new} p q =
    put_determined (subst (λ (t : List ℕ). Put old 0 t r new) (prints_determined p.prints q.prints) p.put) q.put
