-- What `deal` leaves in each of its five ways out, over plain lists. Assumes nothing.
use mathlib.Core.Path.{◌≡◌, refl, sym, ap, ◌∙◌, subst}
use mathlib.Core.Bool.{Bool}
use mathlib.Core.List.{List, [], ◌∷◌, ◌++◌}
use Prim.Native.Nat.{ℕ, zero, suc, ◌+◌, ◌≤◌, ◌<◌}
use native.Mathlib.Nat.{mod-lt}
use native.Mathlib.Omega.{arith}
use lib.ListN.{length, take, length-append}
use lib.Seq.{get_or-take, length-take-le}
use Rattle.verdict.specs.Tests.{Decides}
use Rattle.lent.specs.Lent.{lay}
use Rattle.sets.specs.Sets.{meets}
use Rattle.sets.specs.Rooms.{max_room}
use Rattle.pattern.specs.Language.{reach, accepts}
use Rattle.congruence.specs.Congruence.{Congruent, Listed}
use Rattle.congruence.specs.Lent.{listed_in}
use Rattle.congruence.specs.declared.Pairs.{Pairs}
use Rattle.walk.specs.Walk.{Question, Record, lefts_of, rights_of, parents_of, letters_of, candidate, candidates, upcoming, Implied, Agrees, Moves, Path, Word}
use Rattle.walk.specs.Walk.Moves.{skipped}
use Rattle.walk.specs.Walk.Word.{first, later}
use Rattle.walk.specs.Walk.Ends.{different, full}
use Rattle.walk.specs.Columns.{Columns, columns_of, firsts, Fit}
use Rattle.walk.proofs.Columns.{fit_less}
use Rattle.walk.proofs.Paths.{Way, way}
use Rattle.walk.proofs.Sound.{from_below}
use Rattle.comparison.specs.Answers.{Call, lent_in, SameTables}
use Rattle.comparison.specs.Inner.{Spellable, Spelt, Spells, Lists, Proposable, Proposed, record_of, records_of, standing, Ready, keep_at, write, DealtWith}
use Rattle.comparison.specs.Inner.DealtWith.{skips, keeps, tells, fills}
use Rattle.comparison.specs.declared.Dealt.{Dealt}
use Rattle.comparison.specs.declared.Candidate.{Candidate}
use Rattle.comparison.specs.declared.Tables.{Tables}
use Rattle.comparison.proofs.Standing.{length_records, shown}

-- ---- the candidate

candidate_letter : (Q : Question) (kept : List Record) (e : ℕ) → 0 < Q.pattern.letters → (candidate Q kept e).letter < Q.pattern.letters
unfolding candidate
candidate_letter Q kept zero pos = pos
candidate_letter Q kept (suc e) pos = mod-lt e pos

candidate_parent : (Q : Question) (kept : List Record) (e : ℕ) → 0 < Q.pattern.letters → e < candidates Q kept → (e ≡ 0 → ⊥) → (candidate Q kept e).parent < length kept
unfolding candidate
candidate_parent Q kept zero pos h f = absurd (f refl)
candidate_parent Q kept (suc e) pos h f = from_below Q pos kept e h

candidate_first : (Q : Question) (kept : List Record) (e : ℕ) → e ≡ 0 → (candidate Q kept e).parent ≡ 0
unfolding candidate
candidate_first Q kept zero z = refl
candidate_first Q kept (suc e) z = absurd (omega arith)

word_first : (Q : Question) (kept : List Record) (e : ℕ) → e ≡ 0 → Word Q kept e []
word_first Q kept zero z = first
word_first Q kept (suc e) z = absurd (omega arith)

word_later : (Q : Question) (kept : List Record) (e : ℕ) (w : List ℕ) → (e ≡ 0 → ⊥)
    → Path (parents_of kept) (letters_of kept) (candidate Q kept e).parent w → Word Q kept e (w ++ ((candidate Q kept e).letter ∷ []))
unfolding candidate
word_later Q kept zero w f p = absurd (f refl)
word_later Q kept (suc e) w f p = later p

-- the candidate in hand: where the walk stands, and that what the code made is the candidate
pub record Facing (c : Call) (n e : ℕ) (made : Candidate) : Type 0 where
  pub ready : Ready c n e
  pub is : record_of made ≡ upcoming c.question (standing c.lent n e)

module _ {c : Call} {n e : ℕ} (ready : Ready c n e) where
  fit : Fit n c.lent.columns
  fit = fit_less ready.within ready.roomy.columns_fit

  columns : columns_of (records_of c.lent.columns n) ≡ firsts n c.lent.columns
  columns = shown c.lent.columns n fit

  lefts : lefts_of (records_of c.lent.columns n) ≡ take n c.lent.columns.lefts
  lefts = ap (λ (d : Columns). d.lefts) columns

  rights : rights_of (records_of c.lent.columns n) ≡ take n c.lent.columns.rights
  rights = ap (λ (d : Columns). d.rights) columns

  long_lefts : length (take n c.lent.columns.lefts) ≡ n
  long_lefts = length-take-le n c.lent.columns.lefts fit.lefts

  -- what the code asks for the candidate by, and what it gets
  pub proposable : Proposable c.question.pattern (take n c.lent.columns.lefts) e
  proposable =
      record {
        states_fit = ready.valid.sized.states_fit;
        some_letter = ready.valid.sized.some_letter;
        tabled = ready.valid.tabled;
        remains = rw long_lefts (rw (length_records c.lent.columns n) at ready.remains);
      }

  pub alike : length (take n c.lent.columns.lefts) ≡ length (take n c.lent.columns.rights)
  alike = long_lefts ∙ sym (length-take-le n c.lent.columns.rights fit.rights)

  pub facing : {made : Candidate}
      → Proposed c.question (take n c.lent.columns.lefts) (take n c.lent.columns.rights) e made
      → Facing c n e made
  facing p = record { ready = ready; is = p.all (records_of c.lent.columns n) lefts rights }

-- ---- the same, by the pairs that the code lists

-- a question, a room, and what stands in the tables
abbrev on : Question → ℕ → Tables → Call
on Q room t = record { question = Q; room = room; lent = lent_in t }

module _ {Q : Question} {room n e : ℕ} {t : Tables} {listed : Pairs} (listed_as : Lists t n listed) where
  pub proposable_listed : Ready (on Q room t) n e → Proposable Q.pattern listed.lefts.now e
  proposable_listed ready = rw listed_as.lefts_are (proposable ready)

  pub facing_listed : {made : Candidate} → Ready (on Q room t) n e → Proposed Q listed.lefts.now listed.rights.now e made → Facing (on Q room t) n e made
  facing_listed ready p = facing ready (rw (listed_as.lefts_are, listed_as.rights_are) at p)

pub decided_listed : {t : Tables} {n a b : ℕ} {listed : Pairs} {flag : Bool} → Lists t n listed → Decides (Congruent (listed_in listed) a b) flag
    → Decides (Congruent (Listed (take n t.lefts.now) (take n t.rights.now)) a b) flag
decided_listed l d = rw (l.lefts_are, l.rights_are) at d

pub same_here : {t : Tables} → SameTables t t
same_here = record { lefts = refl; rights = refl; parents = refl; taken = refl; sequence = refl }

pub same_then : {s t u : Tables} → SameTables s t → SameTables t u → SameTables s u
same_then p q =
    record { lefts = q.lefts ∙ p.lefts; rights = q.rights ∙ p.rights; parents = q.parents ∙ p.parents; taken = q.taken ∙ p.taken; sequence = q.sequence ∙ p.sequence }

module _ {c : Call} {n e : ℕ} {made : Candidate} (here : Facing c n e made) where
  -- congruent, and agreeing, as the code asks it
  abbrev pub Old : Type 0
  Old = Congruent (Listed (take n c.lent.columns.lefts) (take n c.lent.columns.rights)) made.left made.right

  abbrev pub Alike : Type 0
  Alike = meets made.left c.question.pattern.finals ≡ meets made.right c.question.pattern.finals

  parents : parents_of (records_of c.lent.columns n) ≡ take n c.lent.columns.parents
  parents = ap (λ (d : Columns). d.parents) (columns here.ready)

  taken : letters_of (records_of c.lent.columns n) ≡ take n c.lent.columns.taken
  taken = ap (λ (d : Columns). d.taken) (columns here.ready)

  pos : 0 < c.question.pattern.letters
  pos = here.ready.valid.sized.some_letter

  implied : Old → Implied (records_of c.lent.columns n) (upcoming c.question (standing c.lent n e))
  implied h = rw (← here.is, lefts here.ready, rights here.ready) h

  not_implied : (Old → ⊥) → Implied (records_of c.lent.columns n) (upcoming c.question (standing c.lent n e)) → ⊥
  not_implied f h = f (rw (← here.is, lefts here.ready, rights here.ready) at h)

  agrees : Alike → Agrees c.question (upcoming c.question (standing c.lent n e))
  unfolding accepts reach
  agrees h = rw (← here.is) h

  not_agrees : (Alike → ⊥) → Agrees c.question (upcoming c.question (standing c.lent n e)) → ⊥
  unfolding accepts reach
  not_agrees f h = f (rw (← here.is) at h)

  pub deal_skipped : Old → DealtWith c n e (Dealt.On n) c.lent
  deal_skipped h = skips (skipped here.ready.remains (implied h))

  pub deal_kept : (Old → ⊥) → Alike → n < c.room → DealtWith c n e (Dealt.On (n + 1)) (keep_at n (record_of made) c.lent)
  deal_kept f a h =
      subst (λ (r : Record). DealtWith c n e (Dealt.On (n + 1)) (keep_at n r c.lent)) (sym here.is)
      (keeps (Moves.kept here.ready.remains (not_implied f) (agrees a) (rw (length_records c.lent.columns n) h)))

  pub deal_full : (Old → ⊥) → Alike → c.room ≤ n → DealtWith c n e Dealt.Full c.lent
  deal_full f a h = fills (full here.ready.remains (not_implied f) (agrees a) (rw (length_records c.lent.columns n) h))

  pub deal_first : (Old → ⊥) → (Alike → ⊥) → e ≡ 0 → DealtWith c n e (Dealt.Different 0) c.lent
  unfolding lay
  deal_first f a z = tells (different here.ready.remains (not_implied f) (not_agrees a) (word_first c.question (records_of c.lent.columns n) e z))

  -- what is stored fits its place
  pub letter_small : made.letter < 32
  letter_small =
      omega (arith, ap (λ (r : Record). r.letter) here.is, candidate_letter c.question (records_of c.lent.columns n) e pos, here.ready.valid.sized.letters_fit)

  later_parent : (e ≡ 0 → ⊥) → made.parent < n
  later_parent f =
      omega (arith, ap (λ (r : Record). r.parent) here.is, candidate_parent c.question (records_of c.lent.columns n) e pos here.ready.remains f, length_records c.lent.columns n)

  pub parent_small : made.parent ≤ max_room
  parent_small = at e refl
    where
      at : (d : ℕ) → e ≡ d → made.parent ≤ max_room
      at zero z = omega (arith, ap (λ (r : Record). r.parent) here.is, candidate_first c.question (records_of c.lent.columns n) e z)
      at (suc d) z = omega (arith, later_parent (λ y. omega arith), here.ready.within, here.ready.roomy.most)

  -- the way to the parent, in the lists as the code shows them
  pub long_parents : length (take n c.lent.columns.parents) ≡ n
  long_parents = length-take-le n c.lent.columns.parents (fit here.ready).parents

  pub long_taken : length (take n c.lent.columns.taken) ≡ n
  long_taken = length-take-le n c.lent.columns.taken (fit here.ready).taken

  way_there : (e ≡ 0 → ⊥) → Way (take n c.lent.columns.parents) (take n c.lent.columns.taken) made.parent
  way_there f =
      way (take n c.lent.columns.parents) (take n c.lent.columns.taken)
      (λ i some h. let b : i < n = rw long_parents at h in rw (get_or-take n c.lent.columns.parents i 0 b) (here.ready.earlier i some b))
      made.parent (rw long_parents (later_parent f))

  pub spellable : (e ≡ 0 → ⊥) → Spellable (take n c.lent.columns.parents) (take n c.lent.columns.taken) made.parent c.lent.sequence
  spellable f =
      let w = way_there f in
      record {
        alike = long_parents ∙ sym long_taken;
        word = w.word;
        path = w.path;
        fits = omega (arith, w.short, later_parent f, here.ready.within, here.ready.roomy.sequence_fits);
      }

  told : (w : List ℕ) → (Old → ⊥) → (Alike → ⊥) → (e ≡ 0 → ⊥) → Path (take n c.lent.columns.parents) (take n c.lent.columns.taken) made.parent w
      → DealtWith c n e (Dealt.Different (length (w ++ (made.letter ∷ [])))) (write (w ++ (made.letter ∷ [])) c.lent)
  told w f a z p =
      let path : Path (parents_of (records_of c.lent.columns n)) (letters_of (records_of c.lent.columns n)) (upcoming c.question (standing c.lent n e)).parent w =
      rw (← here.is, parents, taken) p in
      let word : Word c.question (records_of c.lent.columns n) e (w ++ (made.letter ∷ [])) =
      rw (ap (λ (r : Record). r.letter) here.is) (word_later c.question (records_of c.lent.columns n) e w z path) in
      tells (different here.ready.remains (not_implied f) (not_agrees a) word)

  pub deal_later : {sequence : List ℕ} {r : ℕ} → (Old → ⊥) → (Alike → ⊥) → (e ≡ 0 → ⊥)
      → Spelt (take n c.lent.columns.parents) (take n c.lent.columns.taken) made.parent made.letter c.lent.sequence sequence r
      → DealtWith c n e (Dealt.Different r) (record { columns = c.lent.columns; sequence = sequence })
  deal_later {sequence} {r} f a z s =
      let w = way_there z in
      let (er, es) = s.all w.word w.path in
      rw (es, er, ← length-append w.word (made.letter ∷ [])) (told w.word f a z w.path)

-- what `spell` wrote lies in the tables
pub deal_spelt : {Q : Question} {room n e r : ℕ} {t t' : Tables} {made : Candidate} (here : Facing (on Q room t) n e made) → (Old here → ⊥) → (Alike here → ⊥) → (e ≡ 0 → ⊥)
    → Spells t n made.parent made.letter r t' → DealtWith (on Q room t) n e (Dealt.Different r) (lent_in t')
deal_spelt {Q} {room} {n} {e} {r} {t} {t'} here f a z s =
    subst (λ (d : Columns). DealtWith (on Q room t) n e (Dealt.Different r) (record { columns = d; sequence = t'.sequence.now })) (sym s.columns_kept)
    (deal_later here f a z s.spelt)
