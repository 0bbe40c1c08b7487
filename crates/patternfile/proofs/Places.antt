-- Where and why the reader refuses: each refusal by its line of the scope, with its place.
use Prim.Native.Nat.{ℕ, ◌+◌, ◌*◌, ◌<◌, ◌≤◌}
use mathlib.Core.List.{List, [], ◌∷◌, ◌++◌, append_assoc}
use mathlib.Core.Logic.{◌↔◌, ◌⊎◌, inl, inr}
use mathlib.Core.Path.{◌≡◌, refl, sym, ap, ◌∙◌, subst}
use native.Mathlib.Decide.{dec_le}
use native.Mathlib.Nat.{zero-add}
use native.Mathlib.Omega.{arith}
use lib.Dec.{leb}
use lib.ListN.{length, take, drop}
use lib.Seq.{take_at}
use borrow.Author.Tests.{leb-false}
use Rattle.std.specs.Prelude.{Result, Ok, Err}
use Rattle.verdict.specs.declared.Fault.{Fault as FaultAt}
use Rattle.verdict.specs.Verdict.Verdict.{Fine, Against}
use Rattle.verdict.specs.Refusals.{number}
use Rattle.verdict.proofs.Ordered.{apart, need_against}
use Rattle.sets.specs.Sets.{Good}
use Rattle.pattern.specs.Pattern.{pattern_of}
use Rattle.pattern.specs.Tests.{size_test, set_test, space_test}
use Rattle.pattern.proofs.Validity.{size_fine, set_fine}
use Rattle.numbers.specs.Numbers.{encode, number_at, AreBytes}
use Rattle.numbers.specs.Numbers.Number.{Value, Fault}
use Rattle.numbers.specs.Format.{Format, ended, item, refused, file_reading, encode_all, Fits}
use Rattle.numbers.specs.Faults.{Padded, TooBig, After, here, taken, through, StoppedBy, by_form, by_range, by_gate, by_tail, Stops}
use Rattle.numbers.proofs.Groups.{one_byte}
use Rattle.numbers.proofs.RoundTrip.{read_after_write}
use Rattle.numbers.proofs.Faults.{cut_exactly, padded_exactly, too_big_exactly, fault_is}
use Rattle.numbers.proofs.Formats.{refused_got, file_read_after_write}
use Rattle.numbers.proofs.Places.{first_fault, refused_is, after_fits, AfterMany, among, behind, after_many}
use Rattle.patternfile.specs.declared.PatternNumbers.{PatternNumbers}
use Rattle.patternfile.specs.PatternFile.{numbers_of, starts_then, sets_then, after_letters, pattern_then, pattern_format}
use Rattle.patternfile.specs.Reader.{Reads, number_of, values_of, IsRefused}
use Rattle.patternfile.specs.Refusals.{RefusedAt, bad_states, bad_letters, no_room, bad_set, cut, padded, too_big, tail}

-- ---- what each test refuses

pub size_against : (most v : ℕ) {w : ℕ} → size_test most v ≡ Against w → (w ≡ 10) × ((v < 1) ⊎ (most < v))
unfolding size_test
size_against most v h = ((need_against _ 10 h).1, outside (dec_le 1 v) (dec_le v most))
  where
    outside : Dec (1 ≤ v) → Dec (v ≤ most) → (v < 1) ⊎ (most < v)
    outside (no p) q = inl (omega arith)
    outside (yes p) (no q) = inr (omega arith)
    outside (yes p) (yes q) = apart ((size_fine most v).1 (p, q)) h

pub set_against : (n v : ℕ) {w : ℕ} → set_test n v ≡ Against w → (w ≡ 12) × (Good n v → ⊥)
unfolding set_test
set_against n v h = ((need_against _ 12 h).1, λ g. apart ((set_fine n v).1 g) h)

pub space_against : (room count : ℕ) {w : ℕ} → space_test room count ≡ Against w → (w ≡ 14) × (room < count)
unfolding space_test
space_against room count h = let (i, j) = need_against (leb count room) 14 h in (j, leb-false count room i)

-- a number badly formed
form_refused : {room : ℕ} {s : List ℕ} {w place : ℕ} → number_at s place ≡ Fault w place → RefusedAt room s w place
form_refused {room} {s} {w} {place} h = go (fault_is s place h).0
  where
    go : (w ≡ 20) ⊎ ((w ≡ 21) ⊎ (w ≡ 23)) → RefusedAt room s w place
    go (inl e) = rw e (cut ((cut_exactly s place).0 (rw e at h)))
    go (inr (inl e)) = rw e (padded ((padded_exactly s place).0 (rw e at h)))
    go (inr (inr e)) = rw e (too_big ((too_big_exactly s place).0 (rw e at h)))

-- ---- the first two numbers of a file

module _ (s : List ℕ) (n : ℕ) (fine : size_test 64 n ≡ Fine) where
  n_small : n < 128
  n_small = omega (arith, ((size_fine 64 n).0 fine).1)

  n_read : (us t : List ℕ) → s ≡ encode_all (n ∷ us) ++ t → number_at s 0 ≡ Value n 1
  unfolding encode_all
  n_read us t b =
      let e : drop 0 s ≡ encode n ++ (encode_all us ++ t) = b ∙ append_assoc (encode n) (encode_all us) t in
      let l : 0 + length (encode n) ≡ 1 = omega (arith, ap length (one_byte n n_small)) in
      read_after_write s 0 n (encode_all us ++ t) (omega (arith, n_small)) e ∙ ap (Value n) l

  n_place : length (encode_all (n ∷ [])) ≡ 1
  unfolding encode_all
  n_place = rw (one_byte n n_small)

  module _ (k : ℕ) (fine' : size_test 32 k ≡ Fine) where
    k_small : k < 128
    k_small = omega (arith, ((size_fine 32 k).0 fine').1)

    k_read : (us t : List ℕ) → s ≡ encode_all (n ∷ k ∷ us) ++ t → number_at s 1 ≡ Value k 2
    unfolding encode_all
    k_read us t b =
        let one : s ≡ n ∷ ((encode k ++ encode_all us) ++ t) = b ∙ ap (λ (l : List ℕ). (l ++ (encode k ++ encode_all us)) ++ t) (one_byte n n_small) in
        let e : drop 1 s ≡ encode k ++ (encode_all us ++ t) = ap (drop 1) one ∙ append_assoc (encode k) (encode_all us) t in
        let l : 1 + length (encode k) ≡ 2 = omega (arith, ap length (one_byte k k_small)) in
        read_after_write s 1 k (encode_all us ++ t) (omega (arith, k_small)) e ∙ ap (Value k) l

    k_place : length (encode_all (n ∷ k ∷ [])) ≡ 2
    unfolding encode_all
    k_place = rw (one_byte n n_small, one_byte k k_small)

-- ---- number after number

-- where reading stopped: vs was read, g is what was left of the format
record Where (room : ℕ) (s vs : List ℕ) (g : Format) (w place n : ℕ) : Type 0 where
  states : number_at s 0 ≡ Value n 1
  whole : After (pattern_format room) vs g
  stopped : StoppedBy s w place g
  placed : place ≡ length (encode_all vs)
  bytes : s ≡ encode_all vs ++ drop place s

at_set : {room : ℕ} {s : List ℕ} {w place n : ℕ} {rest : ℕ → Format} → number_at s 0 ≡ Value n 1 → StoppedBy s w place (item (set_test n) rest) → RefusedAt room s w place
at_set e (by_form h) = form_refused h
at_set {n = n} e (by_range {v = v} h q) = let (i, j) = set_against n v q in rw i (bad_set e h j)

at_tail : {room : ℕ} {s vs : List ℕ} {w place n : ℕ} (k f x y : ℕ) (rows : List ℕ) → vs ≡ n ∷ k ∷ f ∷ (rows ++ (x ∷ y ∷ [])) → length rows ≡ n * k → Where room s vs ended w place n
    → StoppedBy s w place ended → RefusedAt room s w place
at_tail {room} {s} {vs} {w} {place} {n} k f x y rows e l t (by_tail q h) =
    let P = pattern_of n k f rows in
    let c : take place s ≡ encode_all (numbers_of P x y) = ap (take place) t.bytes ∙ take_at (encode_all vs) (drop place s) place (sym t.placed) ∙ ap encode_all e in
    let fits : Fits (pattern_format room) (numbers_of P x y) = subst (Fits (pattern_format room)) e (after_fits t.whole) in
    rw q (tail P x y h (record { tabled = l; read = rw c (file_read_after_write (pattern_format room) (numbers_of P x y) fits) }))

in_end : {room n : ℕ} {s vs us : List ℕ} (k f x y : ℕ) (rows : List ℕ) {g : Format} {w place : ℕ} → After ended us g → vs ≡ n ∷ k ∷ f ∷ (rows ++ (x ∷ y ∷ us)) → length rows ≡ n * k
    → Where room s vs g w place n → RefusedAt room s w place
in_end k f x y rows here e l t = at_tail k f x y rows e l t t.stopped

in_y : {room n : ℕ} {s vs us : List ℕ} (k f x : ℕ) (rows : List ℕ) {g : Format} {w place : ℕ} → After (item (set_test n) (λ y. ended)) us g → vs ≡ n ∷ k ∷ f ∷ (rows ++ (x ∷ us))
    → length rows ≡ n * k → Where room s vs g w place n → RefusedAt room s w place
in_y k f x rows here e l t = at_set t.states t.stopped
in_y k f x rows (taken {v = y} a q h) e l t = in_end k f x y rows h e l t

in_starts : {room n : ℕ} {s vs us : List ℕ} (k f : ℕ) (rows : List ℕ) {g : Format} {w place : ℕ} → After (starts_then n ended) us g → vs ≡ n ∷ k ∷ f ∷ (rows ++ us) → length rows ≡ n * k
    → Where room s vs g w place n → RefusedAt room s w place
in_starts k f rows here e l t = at_set t.states t.stopped
in_starts k f rows (taken {v = x} a q h) e l t = in_y k f x rows h e l t

in_rows : {room n : ℕ} {s vs us : List ℕ} (k f : ℕ) {g : Format} {w place : ℕ} → AfterMany (n * k) (set_test n) (starts_then n ended) us g → vs ≡ n ∷ k ∷ f ∷ us → Where room s vs g w place n
    → RefusedAt room s w place
in_rows k f among e t = at_set t.states t.stopped
in_rows {n = n} k f (behind ws vs q l h) e t = in_starts k f ws h (e ∙ ap (λ (us : List ℕ). n ∷ k ∷ f ∷ us) q) l t

in_finals : {room n : ℕ} {s vs us : List ℕ} (k : ℕ) {g : Format} {w place : ℕ} → After (sets_then n k ended) us g → vs ≡ n ∷ k ∷ us
    → Where room s vs g w place n → RefusedAt room s w place
in_finals k here e t = at_set t.states t.stopped
in_finals {n = n} k (taken {v = f} l q h) e t = in_rows k f (after_many (n * k) (set_test n) (starts_then n ended) h) e t

at_room : {room : ℕ} {s : List ℕ} {w place : ℕ} (n k : ℕ) → number_at s 0 ≡ Value n 1 → number_at s 1 ≡ Value k 2 → place ≡ 2 → StoppedBy s w place (after_letters room n k ended) → RefusedAt room s w place
at_room {room} n k e e' p (by_gate h) = let (i, j) = space_against room (n * k) h in rw (i, p) (no_room e e' j)

in_room : {room n : ℕ} {s vs us : List ℕ} (k : ℕ) {g : Format} {w place : ℕ} → size_test 64 n ≡ Fine → size_test 32 k ≡ Fine → After (after_letters room n k ended) us g → vs ≡ n ∷ k ∷ us
    → Where room s vs g w place n → RefusedAt room s w place
in_room {n = n} {s = s} k {place = place} p q here e t =
    let b : s ≡ encode_all (n ∷ k ∷ []) ++ drop place s = t.bytes ∙ ap (λ (l : List ℕ). encode_all l ++ drop place s) e in
    at_room n k t.states (k_read s n p k q [] (drop place s) b) (t.placed ∙ ap (λ (l : List ℕ). length (encode_all l)) e ∙ k_place s n p k q) t.stopped
in_room k p q (through c h) e t = in_finals k h e t

at_letters : {room : ℕ} {s : List ℕ} {w place : ℕ} {rest : ℕ → Format} → place ≡ 1 → StoppedBy s w place (item (size_test 32) rest) → RefusedAt room s w place
at_letters p (by_form h) = form_refused h
at_letters {s = s} p (by_range {v = v} h q) = let (i, j) = size_against 32 v q in rw (i, p) (bad_letters (ap (number_at s) (sym p) ∙ h) j)

in_letters : {room n : ℕ} {s vs us : List ℕ} {g : Format} {w place : ℕ} → size_test 64 n ≡ Fine → After (item (size_test 32) (λ k. after_letters room n k ended)) us g → vs ≡ n ∷ us
    → Where room s vs g w place n → RefusedAt room s w place
in_letters {n = n} {s = s} p here e t = at_letters (t.placed ∙ ap (λ (l : List ℕ). length (encode_all l)) e ∙ n_place s n p) t.stopped
in_letters p (taken {v = k} l q h) e t = in_room k p q h e t

at_states : {room : ℕ} {s : List ℕ} {w place : ℕ} {rest : ℕ → Format} → place ≡ 0 → StoppedBy s w place (item (size_test 64) rest) → RefusedAt room s w place
at_states p (by_form h) = form_refused h
at_states {s = s} p (by_range {v = v} h q) = let (i, j) = size_against 64 v q in rw (i, p) (bad_states (ap (number_at s) (sym p) ∙ h) j)

in_states : {room : ℕ} {s us : List ℕ} {g : Format} {w place : ℕ} → After (item (size_test 64) (λ n. item (size_test 32) (λ k. after_letters room n k ended))) us g → StoppedBy s w place g
    → place ≡ length (encode_all us) → s ≡ encode_all us ++ drop place s → RefusedAt room s w place
unfolding pattern_format pattern_then encode_all
in_states here st e b = at_states e st
in_states {s = s} {us = us} {place = place} (taken {v = n} {us = vs} l q h) st e b =
    in_letters q h refl (record { states = n_read s n q vs (drop place s) b; whole = taken l q h; stopped = st; placed = e; bytes = b })

-- THE PLACE OF EACH REFUSAL is what the scope says; the numbers before it are right, by the law `first_fault`
pub refused_there : {room : ℕ} {s : List ℕ} {w place : ℕ} → AreBytes s → file_reading (pattern_format room) s ≡ refused w place → RefusedAt room s w place
unfolding pattern_format pattern_then
refused_there {room} {s} {w} {place} are q =
    let f : Stops (pattern_format room) s 0 w place = (first_fault (pattern_format room) s w place are).0 q in
    in_states f.follows f.stopped (f.placed ∙ zero-add _) f.bytes

pub refusal_place : {s old new : List ℕ} (f : FaultAt) → AreBytes s → Reads s old (Err f) new → RefusedAt (length old) s (number f.why) f.place
refusal_place f are r = refused_there are r.fault

-- by two of the numbers a host knows how the number there is badly written
pub padded_there : {room : ℕ} {s : List ℕ} {w place : ℕ} → RefusedAt room s w place → w ≡ 21 → Padded 0 (drop place s)
padded_there (padded h) e = h
padded_there (bad_states q h) e = absurd (omega arith)
padded_there (bad_letters q h) e = absurd (omega arith)
padded_there (no_room p q h) e = absurd (omega arith)
padded_there (bad_set p q h) e = absurd (omega arith)
padded_there (cut h) e = absurd (omega arith)
padded_there (tail P x y l f) e = absurd (omega arith)
padded_there (too_big h) e = absurd (omega arith)

pub too_big_there : {room : ℕ} {s : List ℕ} {w place : ℕ} → RefusedAt room s w place → w ≡ 23 → TooBig 0 (drop place s)
too_big_there (too_big h) e = h
too_big_there (bad_states q h) e = absurd (omega arith)
too_big_there (bad_letters q h) e = absurd (omega arith)
too_big_there (no_room p q h) e = absurd (omega arith)
too_big_there (bad_set p q h) e = absurd (omega arith)
too_big_there (cut h) e = absurd (omega arith)
too_big_there (padded h) e = absurd (omega arith)
too_big_there (tail P x y l f) e = absurd (omega arith)

-- and it is refused so exactly where reading stops there
pub refusal_exactly : (s old : List ℕ) (r : Result PatternNumbers FaultAt) (new : List ℕ) {w place : ℕ} → AreBytes s → Reads s old r new
    → (IsRefused r × (number_of r ≡ w) × ((values_of r).place ≡ place)) ↔ Stops (pattern_format (length old)) s 0 w place
refusal_exactly s old (Ok f) new {w} {place} are h = (
  λ q. absurd q.0,
  λ t. absurd (refused_got (sym ((first_fault (pattern_format (length old)) s w place are).1 t) ∙ h.file.read)),
)
refusal_exactly s old (Err f) new {w} {place} are h = (
  λ q. (first_fault (pattern_format (length old)) s w place are).0 (h.fault ∙ rw (q.1, q.2)),
  λ t. let (e, p) = refused_is (sym h.fault ∙ (first_fault (pattern_format (length old)) s w place are).1 t) in (tt, e, p),
)
