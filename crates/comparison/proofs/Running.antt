-- What the loop over the candidates keeps, and what it leaves at its three ends. Assumes nothing.
use mathlib.Core.Path.{◌≡◌, refl, sym, ap, ◌∙◌, subst}
use mathlib.Core.List.{List, [], ◌∷◌}
use Prim.Native.Nat.{ℕ, suc, ◌+◌, ◌*◌, ◌≤◌, ◌<◌}
use native.Mathlib.Nat.{mul-le-mul, mul-le-mul_left}
use native.Mathlib.Numerals.{add-one}
use native.Mathlib.Omega.{arith}
use lib.ListN.{length, get_or, length-append}
use lib.Seq.{get_or-take}
use Rattle.std.specs.Prelude.{Ok}
use Rattle.lent.specs.Lent.{lay}
use Rattle.verdict.specs.Verdict.Verdict.{Fine}
use Rattle.sets.specs.Rooms.{max_room}
use Rattle.walk.specs.Walk.{Record, begin, upcoming, Remains, keep, Moves, Moved}
use Rattle.walk.specs.Walk.Outcome.{Same, Different, Full}
use Rattle.walk.specs.Walk.Ends.{same}
use Rattle.walk.specs.Walk.Moved.{stay, go}
use Rattle.walk.specs.Columns.{Field, Columns, column}
use Rattle.walk.specs.Meaning.{Proper}
use Rattle.walk.proofs.Columns.{fit_at, fit_by, fit_less}
use Rattle.walk.proofs.Sound.{Sound, sound_begin, sound_moved, fits_moved, moved_more}
use Rattle.comparison.specs.Answers.{Lent, Call, compare_test, lay_out, Compared}
use Rattle.comparison.specs.Answers.Compared.{walks}
use Rattle.comparison.specs.Meaning.{Roomy}
use Rattle.comparison.specs.Inner.{records_of, standing, Ready, keep_at, write, DealtWith}
use Rattle.comparison.specs.Inner.DealtWith.{skips, keeps, tells, fills}
use Rattle.comparison.specs.declared.Dealt.{Dealt}
use Rattle.comparison.specs.declared.Answer.{Answer}
use Rattle.comparison.proofs.Asking.{compare_fine}
use Rattle.comparison.proofs.Standing.{lent_path, length_records, shown, records_store, store_laid, laid_long}

-- the same question with what is lent now
abbrev pub later : Call → Lent → Call
later c l = record { question = c.question; room = c.room; lent = l }

-- by moves from the beginning, to where the lent lists now stand
pub record Walking (c : Call) (l : Lent) (n e : ℕ) : Type 0 where
  pub fine : compare_test c ≡ Fine
  pub moved : Moved c.question c.room begin (standing l n e)
  pub laid : l ≡ lay_out (records_of l.columns n) [] c.lent

pub walking_first : {c : Call} → compare_test c ≡ Fine → Walking c c.lent 0 0
unfolding records_of lay
walking_first e = record { fine = e; moved = stay; laid = refl }

module _ {c : Call} {l : Lent} {n e : ℕ} (w : Walking c l n e) where
  asked : Proper c.question × Roomy c.room c.lent
  asked = (compare_fine c).0 w.fine

  within : n ≤ c.room
  within = rw (length_records l.columns n) at (fits_moved w.moved (omega arith))

  sound : Sound c.question (standing l n e)
  sound = let some = asked.0.valid.sized.some_letter in sound_moved c.question some w.moved (sound_begin c.question some)

  -- the lists keep their lengths
  pub long : (x : Field) → length (column x l.columns) ≡ length (column x c.lent.columns)
  long x =
      ap (λ (m : Lent). length (column x m.columns)) w.laid
      ∙ laid_long (records_of l.columns n) c.lent.columns
      (fit_less (rw (length_records l.columns n) within) asked.1.columns_fit) x

  pub quiet : l.sequence ≡ c.lent.sequence
  unfolding lay
  quiet = ap (λ (m : Lent). m.sequence) w.laid

  roomy : Roomy c.room l
  roomy =
      let r = asked.1 in
      record {
        most = r.most;
        columns_fit = fit_by (λ x. omega (arith, fit_at r.columns_fit x, long x));
        sequence_fits = rw quiet r.sequence_fits;
      }

  earlier : (i : ℕ) → 0 < i → i < n → get_or l.columns.parents i 0 < i
  earlier i some h =
      let b : i < length (records_of l.columns n) = rw (length_records l.columns n) h in
      rw (ap (λ (d : Columns). d.parents) (shown l.columns n (fit_less within roomy.columns_fit)), get_or-take n l.columns.parents i 0 h) at ((sound.reached i b).earlier some)

  pub walking_ready : e < 1 + c.question.pattern.letters * n → Ready (later c l) n e
  walking_ready h =
      record {
        valid = asked.0.valid;
        roomy = roomy;
        within = within;
        remains = rw (length_records l.columns n) h;
        earlier = earlier;
      }

  -- the counts are small, and what is examined is no more than the room allows
  pub count_small : c.question.pattern.letters * n ≤ 32 * max_room
  count_small = let h : n ≤ max_room = omega (arith, within, asked.1.most) in mul-le-mul asked.0.valid.sized.letters_fit h

  pub count_within : c.question.pattern.letters * n ≤ c.question.pattern.letters * c.room
  count_within = mul-le-mul_left c.question.pattern.letters within

  -- ---- SAME

  pub walked_same : 1 + c.question.pattern.letters * n ≤ e → Compared c (Ok (Answer.Same n e)) l
  walked_same h =
      rw w.laid (subst (λ (m : ℕ). Compared c (Ok (Answer.Same m e)) (lay_out (records_of l.columns n) [] c.lent)) (length_records l.columns n)
      (walks {o = Same (records_of l.columns n) e} w.fine (record {
        last = standing l n e;
        moved = w.moved;
        ends = same (λ (g : Remains c.question (standing l n e)). let z = rw (length_records l.columns n) at g in omega arith);
      })))

-- ---- a candidate was dealt with

room_left : {c : Call} {l : Lent} {n e : ℕ} → Walking c l n e → Moves c.question c.room (standing l n e) (keep c.question (standing l n e)) → n < c.room
room_left {c} {l} {n} {e} w m =
    let h = fits_moved (go m stay) (rw (length_records l.columns n) (within w)) in
    omega (arith, h, length-append (records_of l.columns n) (upcoming c.question (standing l n e) ∷ []), length_records l.columns n)

-- a candidate kept
walking_keep : {c : Call} {l : Lent} {n e : ℕ} → Walking c l n e → Moves c.question c.room (standing l n e) (keep c.question (standing l n e))
    → Walking c (keep_at n (upcoming c.question (standing l n e)) l) (suc n) (suc e)
walking_keep {c} {l} {n} {e} w m =
    let r = upcoming c.question (standing l n e) in
    let h = room_left w m in
    let one_more = records_store l.columns n r (fit_less h (roomy w).columns_fit) in
    record {
      fine = w.fine;
      moved = subst (λ (ks : List Record). Moved c.question c.room begin (record { kept = ks; examined = suc e })) (sym one_more) (moved_more w.moved m);
      laid =
          ap (keep_at n r) w.laid
          ∙ lent_path (store_laid (records_of l.columns n) c.lent.columns r n (length_records l.columns n) (fit_less h (asked w).1.columns_fit)) refl
          ∙ ap (λ (ks : List Record). lay_out ks [] c.lent) (sym one_more);
    }

-- the walk goes on
pub walking_on : {c : Call} {l : Lent} {n e m : ℕ} {d : Dealt} {l' : Lent} → Walking c l n e → DealtWith (later c l) n e d l' → d ≡ Dealt.On m → Walking c l' m (e + 1)
walking_on {n = n} {e} {m} w (skips mv) q =
    let z : n ≡ m = cc in
    rw (← z, add-one e) (record { fine = w.fine; moved = moved_more w.moved mv; laid = w.laid })
walking_on {n = n} {e} {m} w (keeps mv) q =
    let z : n + 1 ≡ m = cc in
    rw (← z, add-one n, add-one e) (walking_keep w mv)
walking_on w (tells x) q = absurd (let z : ◌≡◌ {A = ℕ} 0 1 = cc in omega arith)
walking_on w (fills x) q = absurd (let z : ◌≡◌ {A = ℕ} 0 1 = cc in omega arith)

-- ---- DIFFERENT

written : {c : Call} {l : Lent} {n e : ℕ} → Walking c l n e → (u : List ℕ) → write u l ≡ lay_out (records_of l.columns n) u c.lent
written w u = lent_path (ap (λ (m : Lent). m.columns) w.laid) (ap (lay u) (quiet w))

pub walked_different : {c : Call} {l : Lent} {n e m : ℕ} {d : Dealt} {l' : Lent} → Walking c l n e → DealtWith (later c l) n e d l' → d ≡ Dealt.Different m
    → Compared c (Ok (Answer.Different n (e + 1) m)) l'
walked_different w (skips mv) q = absurd (let z : ◌≡◌ {A = ℕ} 0 1 = cc in omega arith)
walked_different w (keeps mv) q = absurd (let z : ◌≡◌ {A = ℕ} 0 1 = cc in omega arith)
walked_different {c} {l} {n} {e} {m} w (tells {w = u} x) q =
    let z : length u ≡ m = cc in
    rw (add-one e, written w u, ← z) (subst (λ (k : ℕ). Compared c (Ok (Answer.Different k (suc e) (length u))) (lay_out (records_of l.columns n) u c.lent)) (length_records l.columns n)
    (walks {o = Different (records_of l.columns n) (suc e) u} w.fine (record { last = standing l n e; moved = w.moved; ends = x })))
walked_different w (fills x) q = absurd (let z : ◌≡◌ {A = ℕ} 0 1 = cc in omega arith)

-- ---- FULL

pub walked_full : {c : Call} {l : Lent} {n e : ℕ} {d : Dealt} {l' : Lent} → Walking c l n e → DealtWith (later c l) n e d l' → d ≡ Dealt.Full
    → Compared c (Ok (Answer.Full n (e + 1))) l'
walked_full w (skips mv) q = absurd (let z : ◌≡◌ {A = ℕ} 0 1 = cc in omega arith)
walked_full w (keeps mv) q = absurd (let z : ◌≡◌ {A = ℕ} 0 1 = cc in omega arith)
walked_full w (tells x) q = absurd (let z : ◌≡◌ {A = ℕ} 0 1 = cc in omega arith)
walked_full {c} {l} {n} {e} w (fills x) q =
    rw (add-one e, w.laid) (subst (λ (k : ℕ). Compared c (Ok (Answer.Full k (suc e))) (lay_out (records_of l.columns n) [] c.lent)) (length_records l.columns n)
    (walks {o = Full (records_of l.columns n) (suc e)} w.fine (record { last = standing l n e; moved = w.moved; ends = x })))
