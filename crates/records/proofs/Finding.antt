-- What the comparison leaves in tables of its own, written as records, is what the comparison over a list of records is to leave. Assumes nothing.
use mathlib.Core.Path.{◌≡◌, refl, sym, ap, ap₂, ◌∙◌}
use mathlib.Core.List.{List, [], ◌∷◌, map, map-append, Memᴰ}
use Prim.Native.Nat.{ℕ, zero, suc, ◌≤◌, ◌<◌}
use native.Mathlib.Omega.{arith}
use native.Mathlib.Decide.{dec_le}
use lib.ListN.{length, get_or, set, take, replicate, length-map, get_or-map}
use lib.Seq.{take-suc, take-length, length-take-le}
use Rattle.std.proofs.lemmas.List.{length-replicate}
use Rattle.std.specs.Prelude.{Err}
use Rattle.verdict.specs.declared.Refusal.{Refusal}
use Rattle.verdict.specs.Verdict.{Verdict}
use Rattle.verdict.specs.Verdict.Verdict.{Fine, Against}
use Rattle.verdict.specs.Tests.{in_order, Among}
use Rattle.verdict.proofs.Numbered.{among_need, among_each}
use Rattle.lent.specs.Lent.{lay}
use Rattle.lent.proofs.Laying.{lay_none, lay_more, get_d_lay}
use Rattle.sets.specs.Rooms.{max_room}
use Rattle.pattern.specs.Tests.{set_test, shape_test, masks_test}
use Rattle.walk.specs.Walk.{Question, Record, Outcome, kept_of, word_of, Walk}
use Rattle.walk.specs.Walk.Outcome.{Same, Different, Full}
use Rattle.walk.specs.Columns.{Field, value, record_by, Columns, columns_by, column, record_at, lay_columns, Fit}
use Rattle.walk.proofs.Columns.{value_by, record_path, fit_at, fit_by, fit_less}
use Rattle.walk.specs.Meaning.{Settled}
use Rattle.walk.proofs.Counts.{counts}
use Rattle.walk.proofs.MoreRoom.{more_room}
use Rattle.comparison.specs.Answers.{Answered, number_of, Lent, Call, room_test, compare_test, answer_of, Compared}
use Rattle.comparison.specs.Answers.Compared.{refuses, walks}
use Rattle.comparison.specs.Meaning.{Roomy}
use Rattle.comparison.proofs.Asking.{room_fine, compare_fine, refusal_number}
use Rattle.comparison.proofs.Standing.{laid, laid_long}
use Rattle.comparison.proofs.CompareRoom.{kept_is}
use Rattle.records.specs.declared.PbRecord.{PbRecord}
use Rattle.records.specs.declared.answers.PbCompared.{PbCompared}
use Rattle.records.specs.Answers.{compare_answer}
use Rattle.records.specs.Records.{written, lent_for, call_on, lay_records, ComparedRecords}
use Rattle.records.specs.Inner.{filled, Granted, Asked, Tried}
use Rattle.records.proofs.Agreeing.{column_in}

-- ---- the records that are written

abbrev none : Record
none = record_by (λ (x : Field). 0)

-- the first records of the columns are the kept ones
record Has (c : Columns) (kept : List Record) : Type 0 where
  pub each : (i : ℕ) → i < length kept → record_at c i ≡ get_or kept i none

filled_to : (c : Columns) (kept : List Record) (records : List PbRecord) → Has c kept → length kept ≤ length records → (n : ℕ) → n ≤ length kept
    → filled c records n ≡ lay_records (take n kept) records
filled_to c kept records s h zero b = sym (lay_none records)
filled_to c kept records s h (suc i) b =
    let p = map written (take i kept) in
    let r = get_or kept i none in
    let long : length p ≡ i = length-map (take i kept) written ∙ length-take-le i kept (omega (arith, b)) in
    ap₂ (λ (l : List PbRecord) (z : PbRecord). set l i z) (filled_to c kept records s h i (omega (arith, b))) (ap written (s.each i b))
    ∙ lay_more p records i (written r) (written none) long (omega (arith, b, h))
    ∙ ap (λ (rs : List PbRecord). lay rs records) (sym (map-append written (take i kept) (r ∷ [])) ∙ ap (map written) (sym (take-suc kept i none b)))

filled_is : (c : Columns) (kept : List Record) (records : List PbRecord) → Has c kept → length kept ≤ length records
    → filled c records (length kept) ≡ lay_records kept records
filled_is c kept records s h =
    filled_to c kept records s h (length kept) (omega arith) ∙ ap (λ (ks : List Record). lay_records ks records) (take-length kept)

column_at : (kept : List Record) (old : Columns) (i : ℕ) → i < length kept → (x : Field) → get_or (column x (lay_columns kept old)) i 0 ≡ value x (get_or kept i none)
column_at kept old i b x =
    ap (λ (l : List ℕ). get_or l i 0) (laid kept old x)
    ∙ get_d_lay (map (value x) kept) (column x old) 0 i (omega (arith, b, length-map kept (value x)))
    ∙ ap (get_or (map (value x) kept) i) (sym (value_by (λ (y : Field). 0) x))
    ∙ get_or-map (value x) kept i none

laid_has : (kept : List Record) (old : Columns) → Has (lay_columns kept old) kept
laid_has kept old =
    record {
      each = λ i b. record_path (λ (x : Field). get_or (column x (lay_columns kept old)) i 0) (λ (x : Field). value x (get_or kept i none)) (column_at kept old i b);
    }

-- ---- the two calls are refused alike

-- two tests that refuse by one number only, and the same
alike : (number : ℕ) (v u : Verdict) → Among (number ∷ []) v → Among (number ∷ []) u → (v ≡ Fine → u ≡ Fine) → (u ≡ Fine → v ≡ Fine) → v ≡ u
alike number Fine Fine a b f g = refl
alike number Fine (Against w) a b f g = sym (f refl)
alike number (Against w) Fine a b f g = g refl
alike number (Against w) (Against u) a b f g = ap Against (only (a.among w refl) ∙ sym (only (b.among u refl)))
  where
    only : {w : ℕ} → Memᴰ w (number ∷ []) → w ≡ number
    only (Memᴰ.head e) = e
    only (Memᴰ.tail x) = elim x [ ]

by_13 : (room : ℕ) (lent : Lent) → Among (13 ∷ []) (room_test room lent)
unfolding room_test
by_13 room lent = among_each _ _ (λ most. among_need _ _ 13 (Memᴰ.head refl)) _

-- ---- the comparison in tables of its own, and over the list

-- what a comparison for a list of records answers, and leaves in tables of its own
pub record Found (Q : Question) (room places : ℕ) (records : List PbRecord) (sequence : List ℕ) (k : PbCompared) (l : Lent) : Type 0 where
  pub most : k.kept ≤ places
  pub within : k.kept ≤ length records
  pub fits : Fit k.kept l.columns
  pub answered : (places < room → k.answer ≡ 2 → ⊥) → ComparedRecords Q room records sequence k (filled l.columns records k.kept) l.sequence
  pub full : places < room → k.answer ≡ 2 → (room ≤ max_room) × (l.sequence ≡ sequence)

-- tables of zeros, of so many places
abbrev zeros : ℕ → Columns
zeros places = columns_by (λ (x : Field). replicate places 0)

abbrev pub own : ℕ → List ℕ → Lent
own places sequence = record { columns = zeros places; sequence = sequence }

zeros_fit : (places : ℕ) → Fit places (zeros places)
zeros_fit places = let long = length-replicate {A = ℕ} places 0 in record { lefts = omega arith; rights = omega arith; parents = omega arith; taken = omega arith }

-- FULL wrote no sequence
full_says : (o : Outcome) (sequence : List ℕ) → number_of (answer_of o) ≡ 2 → lay (word_of o) sequence ≡ sequence
full_says (Same kept e) sequence z = absurd (omega (arith, z))
full_says (Different kept e w) sequence z = absurd (omega (arith, z))
full_says (Full kept e) sequence z = lay_none sequence

-- an outcome is FULL or settled
settled_else : (o : Outcome) → (number_of (answer_of o) ≡ 2 → ⊥) → Settled o
settled_else (Same kept e) n = tt
settled_else (Different kept e w) n = tt
settled_else (Full kept e) n = n refl

module _ (Q : Question) (room places : ℕ) (records : List PbRecord) (asks : ℕ) (sequence : List ℕ) (ask : Asked room places (length records) (length sequence) asks) where
  abbrev inner : Call
  inner = record { question = Q; room = asks; lent = own places sequence }

  abbrev outer : Lent
  outer = lent_for records sequence

  -- asking for a room in tables of so many places, and in a list of so many records
  roomy_outside : Roomy asks (own places sequence) → Roomy room outer
  roomy_outside r =
      let g = ask.allowed r.most in
      record { most = g.most; columns_fit = fit_by (λ x. omega (arith, g.records_fit, column_in records x)); sequence_fits = g.sequence_fits }

  granted : Roomy room outer → Granted room (length records) (length sequence)
  granted r =
      record { most = r.most; records_fit = omega (arith, fit_at r.columns_fit Field.left, column_in records Field.left); sequence_fits = r.sequence_fits }

  -- as much of the room as there are places
  asked_most : Granted room (length records) (length sequence) → (asks ≤ places) × (asks ≤ room)
  asked_most g = cases (dec_le room places)
    where
      cases : Dec (room ≤ places) → (asks ≤ places) × (asks ≤ room)
      cases (yes p) = let e = ask.whole g p in (omega (arith, e, p), omega (arith, e))
      cases (no n) = let e = ask.part g (omega (arith, n)) in (omega (arith, e), omega (arith, e, n))

  roomy_inside : Roomy room outer → Roomy asks (own places sequence)
  roomy_inside r =
      let (some, less) = asked_most (granted r) in
      record {
        most = omega (arith, less, r.most);
        columns_fit = fit_by (λ x. omega (arith, some, fit_at (zeros_fit places) x));
        sequence_fits = omega (arith, less, r.sequence_fits);
      }

  rooms_alike : room_test asks (own places sequence) ≡ room_test room outer
  rooms_alike =
      alike 13 _ _ (by_13 asks (own places sequence)) (by_13 room outer)
      (λ f. (room_fine _ _).1 (roomy_outside ((room_fine _ _).0 f))) (λ f. (room_fine _ _).1 (roomy_inside ((room_fine _ _).0 f)))

  tests_alike : compare_test inner ≡ compare_test (call_on Q room records sequence)
  unfolding compare_test
  tests_alike =
      let P = Q.pattern in
      ap (λ (v : Verdict). in_order (shape_test P ∷ v ∷ masks_test P ∷ set_test P.states Q.left ∷ set_test P.states Q.right ∷ [])) rooms_alike

  -- in fewer places than the room, what is not FULL is the walk's outcome in the room
  walk_asked : Granted room (length records) (length sequence) → {o : Outcome} → Walk Q asks o → (places < room → number_of (answer_of o) ≡ 2 → ⊥) → Walk Q room o
  walk_asked g {o} w n = cases (dec_le room places)
    where
      cases : Dec (room ≤ places) → Walk Q room o
      cases (yes p) = rw (ask.whole g p) at w
      cases (no p) = more_room room (asked_most g).1 (settled_else o (n (omega (arith, p)))) w

  found : {a : Answered} {l : Lent} → Compared inner a l → Found Q room places records sequence (compare_answer a) l
  found (refuses {why} e) =
      record {
        most = omega arith;
        within = omega arith;
        fits = fit_by (λ x. omega arith);
        answered = λ n. ComparedRecords.refuses why (sym tests_alike ∙ e);
        full = λ h z. absurd (omega (arith, refusal_number inner e, z));
      }
  found (walks {o} e w) =
      let (proper, roomy) = (compare_fine inner).0 e in
      let g = ask.allowed roomy.most in
      let (some, less) = asked_most g in
      let kept = kept_is o in
      let fits = (counts proper.valid.sized w).fits in
      let c = lay_columns (kept_of o) (zeros places) in
      let all = ap (filled c records) kept ∙ filled_is c (kept_of o) records (laid_has (kept_of o) (zeros places)) (omega (arith, fits, less, g.records_fit)) in
      record {
        most = omega (arith, kept, fits, some);
        within = omega (arith, kept, fits, less, g.records_fit);
        fits = fit_by (λ x. omega (arith, kept, fits, some, fit_at (zeros_fit places) x, laid_long (kept_of o) (zeros places) (fit_less (omega (arith, fits, some)) (zeros_fit places)) x));
        answered = λ n. rw all (ComparedRecords.walks (sym tests_alike ∙ e) (walk_asked g w n));
        full = λ h z. (g.most, full_says o sequence z);
      }

pub finding : {Q : Question} {room places : ℕ} {records : List PbRecord} {asks : ℕ} {sequence : List ℕ} {a : Answered} {l : Lent}
    → Compared (record { question = Q; room = asks; lent = own places sequence }) a l → Asked room places (length records) (length sequence) asks
    → Found Q room places records sequence (compare_answer a) l
finding z ask = found _ _ _ _ _ _ ask z

-- a refusal writes nothing
pub refused_tried : {Q : Question} {room places : ℕ} {records : List PbRecord} {asks : ℕ} {sequence : List ℕ} {why : Refusal} {l : Lent}
    → Compared (record { question = Q; room = asks; lent = own places sequence }) (Err why) l → Asked room places (length records) (length sequence) asks
    → Tried Q room places records sequence (compare_answer (Err why)) records l.sequence
refused_tried z ask =
    let k = finding z ask in
    record { answered = k.answered; full = λ h e. let (most, same) = k.full h e in (most, refl, same) }

-- what is left behind the sequence that was lent is what stands in the tables
pub tried_word : {Q : Question} {room places : ℕ} {records : List PbRecord} {sequence : List ℕ} {r : PbCompared} {later : List PbRecord} {word word' : List ℕ} → word' ≡ word
    → Tried Q room places records sequence r later word → Tried Q room places records sequence r later word'
tried_word e t = rw e t
