-- The first fault by place, for every format: the numbers before the place are right, and what stands there is what is refused.
use Prim.Native.Nat.{ℕ, zero, suc, ◌+◌, ◌≤◌}
use mathlib.Core.List.{List, [], ◌∷◌, ◌++◌, append_assoc}
use mathlib.Core.Logic.{◌↔◌}
use mathlib.Core.Path.{◌≡◌, refl, sym, ap, ◌∙◌}
use native.Mathlib.Decide.{dec_lt}
use native.Mathlib.Omega.{arith}
use lib.ListN.{length, drop, length-append}
use borrow.Author.Tests.{lt-ltb, le-ltb}
use Rattle.verdict.specs.Verdict.{Verdict}
use Rattle.verdict.specs.Verdict.Verdict.{Fine, Against}
use Rattle.numbers.specs.Numbers.{Number, encode, number_at, AreBytes}
use Rattle.numbers.specs.Numbers.Number.{Value, Fault}
use Rattle.numbers.specs.Format.{Format, ended, item, gate, many, Reading, got, refused, ruled, held_to, or_refused, unless_refused, before, reading, no_tail, file_reading, encode_all, Fits}
use Rattle.numbers.specs.Faults.{After, here, taken, through, StoppedBy, by_form, by_range, by_gate, by_tail, Stops}
use Rattle.numbers.proofs.RoundTrip.{Found, read_after_write, write_after_read}
use Rattle.numbers.proofs.Faults.{fault_is}
use Rattle.numbers.proofs.Formats.{refused_got, behind as behind_first, ReadAs, write_after_reading}
use Rattle.numbers.proofs.Parts.{before_all, none_before, one_before_all}

stops_here : (f : Format) (s : List ℕ) (at : ℕ) {w place : ℕ} → place ≡ at → StoppedBy s w place f → Stops f s at w place
unfolding encode_all
stops_here f s at e h = record { us = []; left = f; follows = here; bytes = rw e; placed = omega arith; stopped = h }

stops_later : (test : ℕ → Verdict) (rest : ℕ → Format) (s : List ℕ) (at v next : ℕ) {w place : ℕ} → Found s at v next → test v ≡ Fine → Stops (rest v) s next w place
    → Stops (item test rest) s at w place
unfolding encode_all
stops_later test rest s at v next {w} {place} f q r =
    record {
      us = v ∷ r.us;
      left = r.left;
      follows = taken f.small q r.follows;
      bytes = f.bytes ∙ ap (λ (l : List ℕ). encode v ++ l) r.bytes ∙ sym (append_assoc (encode v) (encode_all r.us) (drop place s));
      placed = omega (arith, f.after, r.placed, length-append (encode v) (encode_all r.us));
      stopped = r.stopped;
    }

pub refused_is : {w p w' p' : ℕ} → refused w p ≡ refused w' p' → (w ≡ w') × (p ≡ p')
refused_is h = (cc, cc)

before_refused : (v : ℕ) (r : Reading) {w p : ℕ} → before v r ≡ refused w p → r ≡ refused w p
before_refused v (got vs n) h = absurd (refused_got (sym h))
before_refused v (refused w p) h = h

stops_item : (test : ℕ → Verdict) (rest : ℕ → Format) (s : List ℕ) (at w place : ℕ) → AreBytes s
    → ((v next : ℕ) → reading (rest v) s next ≡ refused w place → Stops (rest v) s next w place)
    → (n : Number) → number_at s at ≡ n → or_refused (held_to test at n) (λ v next. before v (reading (rest v) s next)) ≡ refused w place
    → Stops (item test rest) s at w place
stops_item test rest s at w place a ih (Fault w' p') e h =
    let (i, j) = refused_is h in
    let k : p' ≡ at = (fault_is s at e).1 in
    stops_here (item test rest) s at (sym j ∙ k) (by_form (rw (← i, ← j) (ap (number_at s) k ∙ e)))
stops_item test rest s at w place a ih (Value v next) e h = go (test v) refl h
  where
    go : (u : Verdict) → test v ≡ u → or_refused (ruled u at v next) (λ v next. before v (reading (rest v) s next)) ≡ refused w place → Stops (item test rest) s at w place
    go (Against w') q h =
        let (i, j) = refused_is h in
        stops_here (item test rest) s at (sym j) (by_range (ap (number_at s) (sym j) ∙ e) (q ∙ ap Against i))
    go Fine q h = stops_later test rest s at v next (write_after_read s at v next a e) q (ih v next (before_refused v (reading (rest v) s next) h))

stops_gate : (verdict : Verdict) (rest : Format) (s : List ℕ) (at w place : ℕ) → (reading rest s at ≡ refused w place → Stops rest s at w place)
    → unless_refused verdict at (reading rest s at) ≡ refused w place → Stops (gate verdict rest) s at w place
stops_gate (Against w') rest s at w place ih h = let (i, j) = refused_is h in stops_here (gate (Against w') rest) s at (sym j) (by_gate (ap Against i))
stops_gate Fine rest s at w place ih h =
    let r : Stops rest s at w place = ih h in
    record { us = r.us; left = r.left; follows = through refl r.follows; bytes = r.bytes; placed = r.placed; stopped = r.stopped }

pub stops : (f : Format) (s : List ℕ) (at w place : ℕ) → AreBytes s → reading f s at ≡ refused w place → Stops f s at w place
unfolding reading
stops ended s at w place a h = absurd (refused_got (sym h))
stops (item test rest) s at w place a h = stops_item test rest s at w place a (λ v next q. stops (rest v) s next w place a q) (number_at s at) refl h
stops (gate verdict rest) s at w place a h = stops_gate verdict rest s at w place (λ q. stops rest s at w place a q) h

-- ---- numbers that a format takes to its end

fits_after : (f : Format) (us : List ℕ) → Fits f us → After f us ended
unfolding Fits
fits_after ended [] h = here
fits_after ended (u ∷ us) h = absurd h
fits_after (item test rest) [] h = absurd h
fits_after (item test rest) (u ∷ us) h = taken h.0 h.1 (fits_after (rest u) us h.2)
fits_after (gate verdict rest) us h = through h.0 (fits_after rest us h.1)

pub after_fits : {f : Format} {us : List ℕ} → After f us ended → Fits f us
unfolding Fits
after_fits here = tt
after_fits (taken l q h) = (l, q, after_fits h)
after_fits (through q h) = (q, after_fits h)

-- ---- several numbers of one kind

-- the numbers end among those of one kind, or behind them
pub data AfterMany (m : ℕ) (test : ℕ → Verdict) (f : Format) (us : List ℕ) : Format → Type 0 where
  among : {rest : ℕ → Format} → AfterMany m test f us (item test rest)
  behind : {g : Format} (ws vs : List ℕ) → us ≡ ws ++ vs → length ws ≡ m → After f vs g → AfterMany m test f us g

pub after_many : (m : ℕ) (test : ℕ → Verdict) (f : Format) {us : List ℕ} {g : Format} → After (many m test f) us g → AfterMany m test f us g
unfolding many
after_many zero test f {us} h = behind [] us refl refl h
after_many (suc m) test f here = among
after_many (suc m) test f (taken {v = v} l q h) = one_more v (after_many m test f h)
  where
    one_more : (v : ℕ) {us : List ℕ} {g : Format} → AfterMany m test f us g → AfterMany (suc m) test f (v ∷ us) g
    one_more v among = among
    one_more v (behind ws vs e n h) = behind (v ∷ ws) vs (ap (λ (l : List ℕ). v ∷ l) e) (ap suc n) h

-- ---- where all before a place is right, what stands there decides

pub reading_behind : (s : List ℕ) {f : Format} {us : List ℕ} {g : Format} → After f us g → (at : ℕ) (t : List ℕ) → drop at s ≡ encode_all us ++ t
    → reading f s at ≡ before_all us (reading g s (at + length (encode_all us)))
unfolding reading encode_all
reading_behind s {f} here at t e = none_before (reading f s at) ∙ ap (λ (n : ℕ). before_all [] (reading f s n)) (omega arith)
reading_behind s (taken {v = v} {us = us} {g = g} l q h) at t e =
    let d : drop at s ≡ encode v ++ (encode_all us ++ t) = e ∙ append_assoc (encode v) (encode_all us) t in
    let n : at + length (encode v) + length (encode_all us) ≡ at + length (encode v ++ encode_all us) = omega (arith, length-append (encode v) (encode_all us)) in
    simp (read_after_write s at v (encode_all us ++ t) l d, q)
    (ap (before v) (reading_behind s h (at + length (encode v)) t (behind_first s at (encode v) (encode_all us ++ t) d))
    ∙ one_before_all v us (reading g s (at + length (encode v) + length (encode_all us)))
    ∙ ap (λ (m : ℕ). before_all (v ∷ us) (reading g s m)) n)
reading_behind s (through q h) at t e = rw q (reading_behind s h at t e)

stopped_there : (s us : List ℕ) {g : Format} {w place : ℕ} → StoppedBy s w place g → no_tail s (before_all us (reading g s place)) ≡ refused w place
unfolding reading
stopped_there s us (by_form h) = rw h
stopped_there s us (by_range h q) = simp (h, q)
stopped_there s us (by_gate h) = rw h
stopped_there s us {place = place} (by_tail q h) = rw (lt-ltb place (length s) h, q)

faulty_there : (f : Format) (s : List ℕ) (w place : ℕ) → Stops f s 0 w place → file_reading f s ≡ refused w place
unfolding file_reading
faulty_there f s w place r =
    let e : 0 + length (encode_all r.us) ≡ place = sym r.placed in
    ap (no_tail s) (reading_behind s r.follows 0 (drop place s) r.bytes ∙ ap (λ (n : ℕ). before_all r.us (reading r.left s n)) e)
    ∙ stopped_there s r.us r.stopped

faulty_first : (f : Format) (s : List ℕ) (w place : ℕ) → AreBytes s → file_reading f s ≡ refused w place → Stops f s 0 w place
unfolding file_reading
faulty_first f s w place a h = go (reading f s 0) refl h
  where
    go : (r : Reading) → reading f s 0 ≡ r → no_tail s r ≡ refused w place → Stops f s 0 w place
    go (refused w' p') e h = let (i, j) = refused_is h in stops f s 0 w place a (e ∙ ap (refused w') j ∙ ap (λ (x : ℕ). refused x place) i)
    go (got us to) e h =
        elim (dec_lt to (length s)) [
          | yes l ↦
              let (i, j) = refused_is (simp (lt-ltb to (length s) l) at h) in
              let r : ReadAs f us s 0 to = write_after_reading f s 0 us to a e in
              record {
                us = us;
                left = ended;
                follows = fits_after f us r.fits;
                bytes = rw (← j) r.bytes;
                placed = sym j ∙ r.after;
                stopped = by_tail (sym i) (rw (← j) l);
              }
          | no l ↦ let m : length s ≤ to = omega arith in absurd (refused_got (sym (simp (le-ltb to (length s) m) at h)))
        ]

-- THE FIRST FAULT BY PLACE DECIDES: a file is refused exactly where reading stops, with all numbers before it right
pub first_fault : (f : Format) (s : List ℕ) (w place : ℕ) → AreBytes s → (file_reading f s ≡ refused w place) ↔ Stops f s 0 w place
first_fault f s w place a = (faulty_first f s w place a, faulty_there f s w place)
