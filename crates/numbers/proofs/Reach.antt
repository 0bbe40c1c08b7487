-- How far reading looks: a format of m numbers reads the same where all but 10 * m bytes from its place on are left out.
use Prim.Native.Nat.{ℕ, zero, suc, ◌+◌, ◌*◌, ◌<◌, ◌≤◌}
use mathlib.Core.List.{List}
use mathlib.Core.Path.{◌≡◌, refl, sym, ap, ◌∙◌}
use native.Mathlib.Decide.{dec_le}
use native.Mathlib.Omega.{arith}
use lib.ListN.{length, take}
use lib.Seq.{take_all, length-take-le}
use borrow.Author.Tests.{lt-ltb}
use Rattle.verdict.specs.Verdict.{Verdict}
use Rattle.verdict.specs.Verdict.Verdict.{Fine}
use Rattle.numbers.specs.Numbers.{Number, number_at, AreBytes}
use Rattle.numbers.specs.Numbers.Number.{Value, Fault}
use Rattle.numbers.specs.Format.{Format, ended, item, gate, many, Reading, got, refused, held_to, or_refused, unless_refused, before, reading, no_tail, file_reading, encode_all, Fits}
use Rattle.numbers.proofs.TenBytes.{encode_ten, ten_decide}
use Rattle.numbers.proofs.RoundTrip.{Found, write_after_read}
use Rattle.numbers.proofs.Formats.{Held, held, ReadAs, write_after_reading}
use Rattle.numbers.proofs.Parts.{then_reading, before_all, going_on, followed, reading_followed}

-- at most m numbers
unfoldable pub Short : ℕ → Format → Type 0
Short m ended = Unit {0}
Short zero (item test rest) = ⊥
Short (suc m) (item test rest) = (v : ℕ) → test v ≡ Fine → Short m (rest v)
Short m (gate verdict rest) = Short m rest

pub short_more : (m p : ℕ) (f : Format) → m ≤ p → Short m f → Short p f
unfolding Short
short_more m p ended h s = tt
short_more zero p (item test rest) h s = absurd s
short_more (suc m) zero (item test rest) h s = absurd (omega arith)
short_more (suc m) (suc p) (item test rest) h s = λ v q. short_more m p (rest v) (omega arith) (s v q)
short_more m p (gate verdict rest) h s = short_more m p rest h s

pub short_many : (m p : ℕ) (test : ℕ → Verdict) (f : Format) → Short p f → Short (m + p) (many m test f)
unfolding Short many
short_many zero p test f s = let e : 0 + p ≡ p = omega arith in rw e s
short_many (suc m) p test f s = let e : suc m + p ≡ suc (m + p) = omega arith in rw e (λ v q. short_many m p test f s)

-- one number: reading goes on alike behind it
pub item_reach : (test : ℕ → Verdict) (rest : ℕ → Format) (s : List ℕ) (at c : ℕ) → at + 10 ≤ c
    → ((v next : ℕ) → Held test at (number_at s at) v next → reading (rest v) (take c s) next ≡ reading (rest v) s next)
    → reading (item test rest) (take c s) at ≡ reading (item test rest) s at
unfolding reading
item_reach test rest s at c h ih =
    ap (λ (n : Number). or_refused (held_to test at n) (λ v next. before v (reading (rest v) (take c s) next))) (ten_decide s at c h)
    ∙ go (held_to test at (number_at s at)) refl
  where
    go : (n : Number) → held_to test at (number_at s at) ≡ n
        → or_refused n (λ v next. before v (reading (rest v) (take c s) next)) ≡ or_refused n (λ v next. before v (reading (rest v) s next))
    go (Fault w p) e = refl
    go (Value v next) e = ap (before v) (ih v next (held test at (number_at s at) e))

pub reach : (f : Format) (m : ℕ) (s : List ℕ) (at c : ℕ) → AreBytes s → Short m f → at + 10 * m ≤ c → reading f (take c s) at ≡ reading f s at
unfolding Short reading
reach ended m s at c a h k = refl
reach (item test rest) zero s at c a h k = absurd h
reach (item test rest) (suc m) s at c a h k =
    item_reach test rest s at c (omega arith)
    (λ v next q. reach (rest v) m s next c a (h v q.range) (let f : Found s at v next = write_after_read s at v next a q.form in omega (arith, f.after, encode_ten v)))
reach (gate verdict rest) m s at c a h k = ap (unless_refused verdict at) (reach rest m s at c a h k)

-- what follows a part is reached where the part is
pub followed_reach : (f : Format) (more : List ℕ → Format) (s : List ℕ) (c : ℕ) → reading f (take c s) 0 ≡ reading f s 0
    → ((us : List ℕ) (end : ℕ) → reading f s 0 ≡ got us end → reading (more us) (take c s) end ≡ reading (more us) s end)
    → reading (followed f more) (take c s) 0 ≡ reading (followed f more) s 0
followed_reach f more s c e h =
    reading_followed f more (take c s) 0
    ∙ ap (λ (r : Reading). then_reading r (going_on more (take c s))) e
    ∙ go (reading f s 0) refl
    ∙ sym (reading_followed f more s 0)
  where
    go : (r : Reading) → reading f s 0 ≡ r → then_reading r (going_on more (take c s)) ≡ then_reading r (going_on more s)
    go (refused w p) q = refl
    go (got us end) q = ap (before_all us) (h us end q)

-- where every file is shorter than c bytes and reading reaches no further, what stands from there on does not matter
pub cap_reach : (f : Format) (s : List ℕ) (c : ℕ) → AreBytes s → reading f (take c s) 0 ≡ reading f s 0 → ((vs : List ℕ) → Fits f vs → length (encode_all vs) < c)
    → file_reading f (take c s) ≡ file_reading f s
unfolding file_reading
cap_reach f s c are same short =
    elim (dec_le (length s) c) [
      | yes l ↦ ap (λ (t : List ℕ). no_tail t (reading f t 0)) (take_all c s l)
      | no l ↦ ap (no_tail (take c s)) same ∙ ends (omega arith) (reading f s 0) refl
    ]
  where
    ends : c < length s → (r : Reading) → reading f s 0 ≡ r → no_tail (take c s) r ≡ no_tail s r
    ends l (refused w p) e = refl
    ends l (got vs next) e =
        let r : ReadAs f vs s 0 next = write_after_reading f s 0 vs next are e in
        let i : length (take c s) ≡ c = length-take-le c s (omega arith) in
        let a : next < length (take c s) = omega (arith, r.after, short vs r.fits) in
        let b : next < length s = omega arith in
        rw (lt-ltb next (length (take c s)) a, lt-ltb next (length s) b)
