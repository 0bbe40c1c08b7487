-- The law of files, for every format: a file is accepted exactly where it is the bytes of numbers that fit.
use Prim.Native.Nat.{ℕ, ◌+◌, ◌≤◌}
use mathlib.Core.Bool.{false}
use mathlib.Core.List.{List, [], ◌∷◌, ◌++◌, append_assoc, append-nil}
use mathlib.Core.Path.{◌≡◌, refl, sym, ap, ◌∙◌}
use native.Mathlib.Decide.{dec_lt}
use native.Mathlib.Omega.{arith}
use lib.Dec.{ltb}
use lib.ListN.{length, drop, length-append, drop_of_length-le}
use lib.Seq.{drop-append_seam, drop-drop}
use borrow.Author.Tests.{lt-ltb, le-ltb}
use Rattle.verdict.specs.Verdict.{Verdict}
use Rattle.verdict.specs.Verdict.Verdict.{Fine, Against}
use Rattle.numbers.specs.Numbers.{Number, encode, number_at, AreBytes}
use Rattle.numbers.specs.Numbers.Number.{Value, Fault}
use Rattle.numbers.specs.Format.{Format, ended, item, gate, Reading, got, refused, ruled, held_to, or_refused, unless_refused, before, reading, no_tail, file_reading, encode_all, Fits}
use Rattle.numbers.proofs.RoundTrip.{Found, read_after_write, write_after_read, fault_value}

-- ---- a number held to a test

-- fine by form and by range
pub record Held (test : ℕ → Verdict) (at : ℕ) (n : Number) (v next : ℕ) : Type 0 where
  pub form : n ≡ Value v next
  pub range : test v ≡ Fine

pub held : (test : ℕ → Verdict) (at : ℕ) (n : Number) {v next : ℕ} → held_to test at n ≡ Value v next → Held test at n v next
held test at (Fault w p) h = absurd (fault_value h)
held test at (Value x to) {v} {next} h = go (test x) refl h
  where
    go : (u : Verdict) → test x ≡ u → ruled u at x to ≡ Value v next → Held test at (Value x to) v next
    go (Against w) e h = absurd (fault_value h)
    go Fine e h = let y : v ≡ x = cc in record { form = h; range = ap test y ∙ e }

-- ---- reading what was written

pub behind : (s : List ℕ) (at : ℕ) (a t : List ℕ) → drop at s ≡ a ++ t → drop (at + length a) s ≡ t
behind s at a t e = sym (drop-drop (length a) at s) ∙ ap (drop (length a)) e ∙ drop-append_seam a t

pub reading_after_write : (f : Format) (vs s : List ℕ) (at : ℕ) (t : List ℕ) → drop at s ≡ encode_all vs ++ t → Fits f vs → reading f s at ≡ got vs (at + length (encode_all vs))
unfolding Fits encode_all reading
reading_after_write ended [] s at t e h = ap (got []) (omega arith)
reading_after_write ended (v ∷ vs) s at t e h = elim h [ ]
reading_after_write (item test rest) [] s at t e h = elim h [ ]
reading_after_write (item test rest) (v ∷ vs) s at t e h =
    let d : drop at s ≡ encode v ++ (encode_all vs ++ t) = e ∙ append_assoc (encode v) (encode_all vs) t in
    let n : at + length (encode v) + length (encode_all vs) ≡ at + length (encode v ++ encode_all vs) = omega (arith, length-append (encode v) (encode_all vs)) in
    simp (read_after_write s at v (encode_all vs ++ t) h.0 d, h.1)
    (ap (before v) (reading_after_write (rest v) vs s (at + length (encode v)) t (behind s at (encode v) (encode_all vs ++ t) d) h.2)
    ∙ ap (got (v ∷ vs)) n)
reading_after_write (gate verdict rest) vs s at t e h = rw h.0 (reading_after_write rest vs s at t e h.1)

-- ---- what was read is what was written

pub record ReadAs (f : Format) (vs s : List ℕ) (at next : ℕ) : Type 0 where
  pub fits : Fits f vs
  pub bytes : drop at s ≡ encode_all vs ++ drop next s
  pub after : next ≡ at + length (encode_all vs)

pub refused_got : {w p : ℕ} {vs : List ℕ} {n : ℕ} → refused w p ≡ got vs n → ⊥
refused_got h = let z : ◌≡◌ {A = ℕ} 0 1 = cc in omega arith

read_ended : (s : List ℕ) (at : ℕ) (us : List ℕ) (end : ℕ) → got [] at ≡ got us end → ReadAs ended us s at end
unfolding Fits encode_all
read_ended s at us end h =
    let x : us ≡ [] = cc in
    let y : end ≡ at = cc in
    rw (x, y) (record { fits = tt; bytes = refl; after = omega arith })

joined : (test : ℕ → Verdict) (rest : ℕ → Format) (s : List ℕ) (at v next : ℕ) (vs : List ℕ) (to : ℕ) → Found s at v next → test v ≡ Fine → ReadAs (rest v) vs s next to
    → ReadAs (item test rest) (v ∷ vs) s at to
unfolding Fits encode_all
joined test rest s at v next vs to f g r =
    record {
      fits = (f.small, g, r.fits);
      bytes = f.bytes ∙ ap (λ (l : List ℕ). encode v ++ l) r.bytes ∙ sym (append_assoc (encode v) (encode_all vs) (drop to s));
      after = omega (arith, f.after, r.after, length-append (encode v) (encode_all vs));
    }

read_item : (test : ℕ → Verdict) (rest : ℕ → Format) (s : List ℕ) (at : ℕ) (us : List ℕ) (end : ℕ) → AreBytes s
    → ((v : ℕ) (vs : List ℕ) (from to : ℕ) → reading (rest v) s from ≡ got vs to → ReadAs (rest v) vs s from to)
    → (n : Number) → held_to test at (number_at s at) ≡ n → or_refused n (λ v next. before v (reading (rest v) s next)) ≡ got us end
    → ReadAs (item test rest) us s at end
read_item test rest s at us end a ih (Fault w p) e h = absurd (refused_got h)
read_item test rest s at us end a ih (Value v next) e h = go (reading (rest v) s next) refl h
  where
    go : (r : Reading) → reading (rest v) s next ≡ r → before v r ≡ got us end → ReadAs (item test rest) us s at end
    go (refused w p) q h = absurd (refused_got h)
    go (got vs to) q h =
        let x : us ≡ v ∷ vs = cc in
        let y : end ≡ to = cc in
        let k : Held test at (number_at s at) v next = held test at (number_at s at) e in
        rw (x, y) (joined test rest s at v next vs to (write_after_read s at v next a k.form) k.range (ih v vs next to q))

read_gate : (verdict : Verdict) (rest : Format) (s : List ℕ) (at : ℕ) (us : List ℕ) (end : ℕ) → (reading rest s at ≡ got us end → ReadAs rest us s at end)
    → unless_refused verdict at (reading rest s at) ≡ got us end → ReadAs (gate verdict rest) us s at end
unfolding Fits
read_gate (Against w) rest s at us end ih h = absurd (refused_got h)
read_gate Fine rest s at us end ih h = let r : ReadAs rest us s at end = ih h in record { fits = (refl, r.fits); bytes = r.bytes; after = r.after }

pub write_after_reading : (f : Format) (s : List ℕ) (at : ℕ) (us : List ℕ) (end : ℕ) → AreBytes s → reading f s at ≡ got us end → ReadAs f us s at end
unfolding reading
write_after_reading ended s at us end a h = read_ended s at us end h
write_after_reading (item test rest) s at us end a h =
    read_item test rest s at us end a (λ v vs from to q. write_after_reading (rest v) s from vs to a q) (held_to test at (number_at s at)) refl h
write_after_reading (gate verdict rest) s at us end a h = read_gate verdict rest s at us end (λ q. write_after_reading rest s at us end a q) h

-- ---- THE LAW OF FILES

-- numbers that fit read back from their bytes, and all bytes are taken
pub file_read_after_write : (f : Format) (vs : List ℕ) → Fits f vs → file_reading f (encode_all vs) ≡ got vs (length (encode_all vs))
unfolding file_reading
file_read_after_write f vs h =
    let r : reading f (encode_all vs) 0 ≡ got vs (0 + length (encode_all vs)) = reading_after_write f vs (encode_all vs) 0 [] (sym (append-nil (encode_all vs))) h in
    let n : 0 + length (encode_all vs) ≡ length (encode_all vs) = omega arith in
    let k : ltb (length (encode_all vs)) (length (encode_all vs)) ≡ false = le-ltb (length (encode_all vs)) (length (encode_all vs)) (omega arith) in
    simp (r, n, k)

pub record IsFile (f : Format) (vs s : List ℕ) (end : ℕ) : Type 0 where
  pub fits : Fits f vs
  pub bytes : s ≡ encode_all vs
  pub takes_all : end ≡ length s

whole_file : (f : Format) (s us : List ℕ) (to : ℕ) → length s ≤ to → ReadAs f us s 0 to → IsFile f us s to
whole_file f s us to l r =
    let b : s ≡ encode_all us = r.bytes ∙ ap (λ (t : List ℕ). encode_all us ++ t) (drop_of_length-le s l) ∙ append-nil (encode_all us) in
    record { fits = r.fits; bytes = b; takes_all = omega (arith, r.after, ap length b) }

-- an accepted file was read to its end
pub file_got : (f : Format) (s vs : List ℕ) (end : ℕ) → file_reading f s ≡ got vs end → (reading f s 0 ≡ got vs end) × (length s ≤ end)
unfolding file_reading
file_got f s vs end h = go (reading f s 0) refl h
  where
    go : (r : Reading) → reading f s 0 ≡ r → no_tail s r ≡ got vs end → (reading f s 0 ≡ got vs end) × (length s ≤ end)
    go (refused w p) e h = absurd (refused_got h)
    go (got us to) e h =
        elim (dec_lt to (length s)) [
          | yes l ↦ absurd (refused_got (simp (lt-ltb to (length s) l) at h))
          | no l ↦
              let q : got us to ≡ got vs end = simp (le-ltb to (length s) (omega arith)) at h in
              let y : end ≡ to = cc in
              (e ∙ q, omega arith)
        ]

-- it is the bytes of its numbers, which fit
pub file_write_after_read : (f : Format) (s vs : List ℕ) (end : ℕ) → AreBytes s → file_reading f s ≡ got vs end → IsFile f vs s end
file_write_after_read f s vs end a h =
    let (e, l) = file_got f s vs end h in
    whole_file f s vs end l (write_after_reading f s 0 vs end a e)
