-- Both promises determine their calls: two results that one of them allows are equal, and so is what they leave in the buffers.
use Prim.Native.Nat.{ℕ, ◌*◌}
use mathlib.Core.List.{List, [], ◌∷◌, ◌++◌, append_assoc}
use mathlib.Core.Path.{◌≡◌, refl, sym, ap, ◌∙◌}
use lib.ListN.{length, take, drop}
use lib.Seq.{take_at, drop_at}
use Rattle.std.specs.Prelude.{Result, Ok, Err}
use Rattle.verdict.specs.declared.Refusal.{Refusal}
use Rattle.verdict.specs.declared.Fault.{Fault}
use Rattle.verdict.proofs.Ordered.{apart, one_number}
use Rattle.verdict.proofs.Refusals.{one_refusal}
use Rattle.lent.proofs.Putting.{put_determined}
use Rattle.numbers.specs.Format.{got}
use Rattle.numbers.proofs.Formats.{refused_got}
use Rattle.numbers.proofs.Places.{refused_is}
use Rattle.patternfile.proofs.Determined.{same_numbers, same_fault}
use Rattle.evidence.specs.Evidence.{Offer}
use Rattle.evidencefile.specs.declared.EvidenceNumbers.{EvidenceNumbers}
use Rattle.evidencefile.specs.EvidenceFile.{Rooms, Lists, alternating, numbers_of, lay_offer}
use Rattle.evidencefile.specs.Reader.{with_lists, FileOf, ReadDone, Reads}
use Rattle.evidencefile.specs.Writer.{Writes}
use Rattle.evidencefile.proofs.Sides.{same_sides}

-- ---- the numbers of a file say which offer it is

offer_path : {o p : Offer} → o.pattern.states ≡ p.pattern.states → o.pattern.letters ≡ p.pattern.letters → o.pattern.finals ≡ p.pattern.finals
    → o.pattern.rows ≡ p.pattern.rows → o.x ≡ p.x → o.y ≡ p.y → o.lefts ≡ p.lefts → o.rights ≡ p.rights → o ≡ p
offer_path n k f rows x y l r i =
    record { pattern = record { states = n i; letters = k i; finals = f i; rows = rows i }; x = x i; y = y i; lefts = l i; rights = r i }

-- what stands behind the first three numbers, by rows of one length
same_behind : (rows rows' us us' : List ℕ) → length rows ≡ length rows' → rows ++ us ≡ rows' ++ us' → (rows ≡ rows') × (us ≡ us')
same_behind rows rows' us us' l e = (
  sym (take_at rows us (length rows) refl) ∙ ap (take (length rows)) e ∙ take_at rows' us' (length rows) (sym l),
  sym (drop_at rows us (length rows) refl) ∙ ap (drop (length rows)) e ∙ drop_at rows' us' (length rows) (sym l),
)

pub one_offer : {rooms : Rooms} {s : List ℕ} {o p : Offer} → FileOf rooms s o → FileOf rooms s p → o ≡ p
one_offer {rooms} {s} {o} {p} a b =
    let P = o.pattern in
    let Q = p.pattern in
    let e : got (numbers_of o) (length s) ≡ got (numbers_of p) (length s) = sym a.read ∙ b.read in
    let n : P.states ≡ Q.states = cc in
    let k : P.letters ≡ Q.letters = cc in
    let f : P.finals ≡ Q.finals = cc in
    let us = o.x ∷ o.y ∷ length o.lefts ∷ alternating o.lefts o.rights in
    let us' = p.x ∷ p.y ∷ length p.lefts ∷ alternating p.lefts p.rights in
    let all : (P.rows ++ (o.x ∷ o.y ∷ [])) ++ (length o.lefts ∷ alternating o.lefts o.rights) ≡ (Q.rows ++ (p.x ∷ p.y ∷ [])) ++ (length p.lefts ∷ alternating p.lefts p.rights) = cc in
    let m : P.states * P.letters ≡ Q.states * Q.letters = rw (n, k) in
    let (rows, rest) =
    same_behind P.rows Q.rows us us' (a.tabled ∙ m ∙ sym b.tabled)
    (sym (append_assoc P.rows (o.x ∷ o.y ∷ []) (length o.lefts ∷ alternating o.lefts o.rights)) ∙ all ∙ append_assoc Q.rows (p.x ∷ p.y ∷ []) (length p.lefts ∷ alternating p.lefts p.rights)) in
    let x : o.x ≡ p.x = cc in
    let y : o.y ≡ p.y = cc in
    let sides : alternating o.lefts o.rights ≡ alternating p.lefts p.rights = cc in
    let (l, r) = same_sides o.lefts o.rights p.lefts p.rights a.paired b.paired sides in
    offer_path n k f rows x y l r

done_same : {s : List ℕ} {old : Lists} (f f' : EvidenceNumbers) {new new' : Lists} → ReadDone s old f new → ReadDone s old f' new' → (f ≡ f') × (new ≡ new')
done_same {s} {old} f f' p q =
    let e : with_lists f p.rows p.lefts p.rights ≡ with_lists f' q.rows q.lefts q.rights = one_offer p.file q.file in
    let numbers : f.pattern ≡ f'.pattern =
    same_numbers (ap (λ (o : Offer). o.pattern.states) e) (ap (λ (o : Offer). o.pattern.letters) e) (ap (λ (o : Offer). o.pattern.finals) e) (ap (λ (o : Offer). o.x) e)
    (ap (λ (o : Offer). o.y) e) in
    let pairs : f.pairs ≡ f'.pairs = p.counted ∙ ap (λ (o : Offer). length o.lefts) e ∙ sym q.counted in
    (λ i. record { pattern = numbers i; pairs = pairs i }, p.written ∙ ap (λ (o : Offer). lay_offer o old) e ∙ sym q.written)

pub reader_determined : (s : List ℕ) (old : Lists) (r r' : Result EvidenceNumbers Fault) (new new' : Lists) → Reads s old r new → Reads s old r' new' → (r ≡ r') × (new ≡ new')
reader_determined s old (Ok f) (Ok f') new new' p q = let (e, l) = done_same f f' p q in (ap Ok e, l)
reader_determined s old (Ok f) (Err fault) new new' p q = absurd (refused_got (sym q.fault ∙ p.file.read))
reader_determined s old (Err fault) (Ok f) new new' p q = absurd (refused_got (sym p.fault ∙ q.file.read))
reader_determined s old (Err fault) (Err fault') new new' p q =
    let (w, place) = refused_is (sym p.fault ∙ q.fault) in
    (ap Err (same_fault w place), p.unchanged ∙ sym q.unchanged)

pub writer_determined : (o : Offer) (old : List ℕ) (r r' : Result ℕ Refusal) (new new' : List ℕ) → Writes o old r new → Writes o old r' new' → (r ≡ r') × (new ≡ new')
writer_determined o old (Ok c) (Ok c') new new' p q =
    let (count, bytes) = put_determined p.written q.written in
    (ap Ok count, bytes)
writer_determined o old (Ok c) (Err why) new new' p q = apart p.allowed q.against
writer_determined o old (Err why) (Ok c) new new' p q = apart q.allowed p.against
writer_determined o old (Err why) (Err why') new new' p q = (ap Err (one_refusal (one_number p.against q.against)), p.unchanged ∙ sym q.unchanged)
