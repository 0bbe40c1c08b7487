-- Both promises determine their calls: two results that one of them allows are equal, and so is what they leave in the buffer.
use Prim.Native.Nat.{ℕ, ◌*◌}
use mathlib.Core.List.{List, [], ◌∷◌, ◌++◌}
use mathlib.Core.Path.{◌≡◌, sym, ap, ◌∙◌}
use lib.ListN.{length, take, drop}
use lib.Seq.{take-append_seam, drop-append_seam, take_at, drop_at}
use Rattle.std.specs.Prelude.{Result, Ok, Err}
use Rattle.verdict.specs.declared.Refusal.{Refusal}
use Rattle.verdict.specs.declared.Fault.{Fault}
use Rattle.verdict.specs.Refusals.{number}
use Rattle.verdict.proofs.Ordered.{apart, one_number}
use Rattle.verdict.proofs.Refusals.{one_refusal}
use Rattle.lent.specs.Lent.{lay}
use Rattle.lent.proofs.Putting.{put_determined}
use Rattle.pattern.specs.Pattern.{Pattern}
use Rattle.numbers.specs.Format.{got}
use Rattle.numbers.proofs.Formats.{refused_got}
use Rattle.numbers.proofs.Places.{refused_is}
use Rattle.patternfile.specs.declared.PatternNumbers.{PatternNumbers}
use Rattle.patternfile.specs.Reader.{ReadDone, Reads}
use Rattle.patternfile.specs.Writer.{Writes}

-- ---- the numbers of a file say which pattern it is

pub same_rows : (rows rows' : List ℕ) (x y x' y' : ℕ) → length rows ≡ length rows' → rows ++ (x ∷ y ∷ []) ≡ rows' ++ (x' ∷ y' ∷ []) → (rows ≡ rows') × (x ∷ y ∷ [] ≡ x' ∷ y' ∷ [])
same_rows rows rows' x y x' y' l e = (
  sym (take-append_seam rows (x ∷ y ∷ [])) ∙ ap (take (length rows)) e ∙ take_at rows' (x' ∷ y' ∷ []) (length rows) (sym l),
  sym (drop-append_seam rows (x ∷ y ∷ [])) ∙ ap (drop (length rows)) e ∙ drop_at rows' (x' ∷ y' ∷ []) (length rows) (sym l),
)

pub same_numbers : {f f' : PatternNumbers} → f.states ≡ f'.states → f.letters ≡ f'.letters → f.finals ≡ f'.finals → f.x ≡ f'.x → f.y ≡ f'.y → f ≡ f'
same_numbers en ek ef ex ey = λ i. record { states = en i; letters = ek i; finals = ef i; x = ex i; y = ey i }

pub same_fault : {f f' : Fault} → number f.why ≡ number f'.why → f.place ≡ f'.place → f ≡ f'
same_fault w p = let e = one_refusal w in λ i. record { why = e i; place = p i }

done_same : {s old : List ℕ} (f f' : PatternNumbers) {new new' : List ℕ} → ReadDone s old f new → ReadDone s old f' new' → (f ≡ f') × (new ≡ new')
done_same {s} {old} f f' p q =
    let e : got (f.states ∷ f.letters ∷ f.finals ∷ (p.rows ++ (f.x ∷ f.y ∷ []))) (length s) ≡ got (f'.states ∷ f'.letters ∷ f'.finals ∷ (q.rows ++ (f'.x ∷ f'.y ∷ []))) (length s) =
    sym p.file.read ∙ q.file.read in
    let en : f.states ≡ f'.states = cc in
    let ek : f.letters ≡ f'.letters = cc in
    let ef : f.finals ≡ f'.finals = cc in
    let er : p.rows ++ (f.x ∷ f.y ∷ []) ≡ q.rows ++ (f'.x ∷ f'.y ∷ []) = cc in
    let m : f.states * f.letters ≡ f'.states * f'.letters = rw (en, ek) in
    let l : length p.rows ≡ length q.rows = p.file.tabled ∙ m ∙ sym q.file.tabled in
    let (rows, starts) = same_rows p.rows q.rows f.x f.y f'.x f'.y l er in
    let ex : f.x ≡ f'.x = cc in
    let ey : f.y ≡ f'.y = cc in
    (same_numbers en ek ef ex ey, p.written ∙ ap (λ (l : List ℕ). lay l old) rows ∙ sym q.written)

pub reader_determined : (s old : List ℕ) (r r' : Result PatternNumbers Fault) (new new' : List ℕ) → Reads s old r new → Reads s old r' new' → (r ≡ r') × (new ≡ new')
reader_determined s old (Ok f) (Ok f') new new' p q = let (e, l) = done_same f f' p q in (ap Ok e, l)
reader_determined s old (Ok f) (Err fault) new new' p q = absurd (refused_got (sym q.fault ∙ p.file.read))
reader_determined s old (Err fault) (Ok f) new new' p q = absurd (refused_got (sym p.fault ∙ q.file.read))
reader_determined s old (Err fault) (Err fault') new new' p q =
    let (w, place) = refused_is (sym p.fault ∙ q.fault) in
    (ap Err (same_fault w place), p.unchanged ∙ sym q.unchanged)

pub writer_determined : (P : Pattern) (x y : ℕ) (old : List ℕ) (r r' : Result ℕ Refusal) (new new' : List ℕ) → Writes P x y old r new → Writes P x y old r' new'
    → (r ≡ r') × (new ≡ new')
writer_determined P x y old (Ok c) (Ok c') new new' p q =
    let (count, bytes) = put_determined p.written q.written in
    (ap Ok count, bytes)
writer_determined P x y old (Ok c) (Err why) new new' p q = apart p.allowed q.against
writer_determined P x y old (Err why) (Ok c) new new' p q = apart q.allowed p.against
writer_determined P x y old (Err why) (Err why') new new' p q = (ap Err (one_refusal (one_number p.against q.against)), p.unchanged ∙ sym q.unchanged)
