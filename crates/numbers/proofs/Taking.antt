-- What the reader answers: it is what stands at the place, with how many bytes it took instead of the place after it.
use Prim.Native.Nat.{ℕ, ◌+◌, ◌^◌, ◌<◌, ◌≤◌}
use mathlib.Core.List.{List}
use mathlib.Core.Logic.{◌↔◌}
use mathlib.Core.Path.{◌≡◌, refl, sym, ap, ◌∙◌}
use native.Mathlib.Omega.{arith}
use lib.ListN.{length, drop, length-append, length-drop}
use Rattle.std.specs.Prelude.{Result, Ok, Err}
use Rattle.verdict.specs.declared.Refusal.{Refusal}
use Rattle.verdict.specs.declared.Fault.{Fault as FaultAt}
use Rattle.verdict.specs.Verdict.{Verdict}
use Rattle.verdict.specs.Verdict.Verdict.{Fine, Against}
use Rattle.verdict.specs.Refusals.{number, said}
use Rattle.numbers.specs.Numbers.{Number, NumberRead, encode, Form, whole, faulty, groups, placed, number_at, answered, read_at, AreBytes, Took}
use Rattle.numbers.specs.Numbers.Number.{Value, Fault}
use Rattle.numbers.specs.Numbers.NumberRead.{Done, Refused}
use Rattle.numbers.specs.Format.{held_to, ruled}
use Rattle.numbers.specs.Told.{HoldsTo}
use Rattle.numbers.proofs.Groups.{encode_some}
use Rattle.numbers.proofs.RoundTrip.{Found, fault_value, write_after_read}
use Rattle.numbers.proofs.TenBytes.{encode_ten}

-- the number as it stands in a file: who needs the place after it adds
abbrev pub standing : ℕ → NumberRead → Number
standing at (Done v n) = Value v (at + n)
standing at (Refused w p) = Fault w p

standing_placed : (at : ℕ) (f : Form) → standing at (answered at f) ≡ placed at f
standing_placed at (whole v n) = refl
standing_placed at (faulty w) = refl

module _ (s : List ℕ) (at : ℕ) where
  pub stands : standing at (read_at s at) ≡ number_at s at
  unfolding read_at number_at
  stands = standing_placed at (groups 0 (drop at s))

  module _ {r : NumberRead} (e : r ≡ read_at s at) where
    pub done_on : {v n : ℕ} → r ≡ Done v n → number_at s at ≡ Value v (at + n)
    done_on q = sym stands ∙ ap (standing at) (sym e ∙ q)

    pub refused_on : {w p : ℕ} → r ≡ Refused w p → number_at s at ≡ Fault w p
    refused_on q = sym stands ∙ ap (standing at) (sym e ∙ q)

  -- the reader answers a value exactly where it stands there, and how many bytes it took is how far on the next place is
  pub done_exactly : {v n : ℕ} → (read_at s at ≡ Done v n) ↔ (number_at s at ≡ Value v (at + n))
  unfolding read_at number_at
  done_exactly {v} {n} = (done_on refl, from (groups 0 (drop at s)))
    where
      from : (f : Form) → placed at f ≡ Value v (at + n) → answered at f ≡ Done v n
      from (whole x m) h =
          let e : x ≡ v = cc in
          let k : at + m ≡ at + n = cc in
          let l : m ≡ n = omega arith in
          rw (e, l)
      from (faulty w) h = absurd (fault_value h)

  -- and a fault exactly where that one stands there
  pub refused_exactly : {w p : ℕ} → (read_at s at ≡ Refused w p) ↔ (number_at s at ≡ Fault w p)
  unfolding read_at number_at
  refused_exactly {w} {p} = (refused_on refl, from (groups 0 (drop at s)))
    where
      from : (f : Form) → placed at f ≡ Fault w p → answered at f ≡ Refused w p
      from (whole x m) h = absurd (fault_value (sym h))
      from (faulty u) h =
          let e : u ≡ w = cc in
          let k : at ≡ p = cc in
          rw (e, k)

-- HOW MANY BYTES A NUMBER TAKES: those of its one form, 1 to 10, and they are there
pub took : (s : List ℕ) (at v n : ℕ) → AreBytes s → read_at s at ≡ Done v n → Took s at v n
unfolding encode
took s at v n are h =
    let f : Found s at v (at + n) = write_after_read s at v (at + n) are (done_on s at refl h) in
    let count : n ≡ length (encode v) = omega (arith, f.after) in
    let some : 0 < length (encode v) = encode_some 9 v in
    record {
      form = f.bytes;
      count = count;
      some = omega arith;
      few = omega (arith, encode_ten v);
      within = omega (arith, ap length f.bytes, length-append (encode v) (drop (at + n) s), length-drop at s, length-drop (at + n) s);
    }

module _ (s : List ℕ) (at : ℕ) {v n : ℕ} (are : AreBytes s) (h : Done v n ≡ read_at s at) where
  -- the place after it is one of the data, or its end
  pub took_within : at + n ≤ length s
  took_within = (took s at v n are (sym h)).within

  -- and the value is a 64-bit number
  small : v < 2 ^ 64
  small = (write_after_read s at v (at + n) are (done_on s at refl (sym h))).small

-- ---- a number read and then held to a test

module _ (test : ℕ → Verdict) (s : List ℕ) (at : ℕ) {r : NumberRead} (e : r ≡ read_at s at) where
  pub done_held : {v n : ℕ} → r ≡ Done v n → ruled (test v) at v (at + n) ≡ held_to test at (number_at s at)
  done_held q = ap (held_to test at) (sym (done_on s at e q))

  pub refused_held : {w p : ℕ} → r ≡ Refused w p → Fault w p ≡ held_to test at (number_at s at)
  refused_held q = ap (held_to test at) (sym (refused_on s at e q))

-- what the code answers of it: the fault of its form, the refusal of the test at its first byte, or the number
module _ (Tells : ℕ → Result (Unit {0}) Refusal → Type 0) (s : List ℕ) (at : ℕ) where
  pub held_fault : {f : FaultAt} → Refused (number f.why) f.place ≡ read_at s at → HoldsTo Tells s at (Err f)
  held_fault h = record { held = λ test tells. refused_held test s at h refl }

  module _ {v n : ℕ} (are : AreBytes s) (h : Done v n ≡ read_at s at) (r : Result (Unit {0}) Refusal) (told : Tells v r) where
    says : (test : ℕ → Verdict) → ((u : ℕ) (q : Result (Unit {0}) Refusal) → u < 2 ^ 64 → Tells u q → said q ≡ test u) → {w : Verdict} → said r ≡ w
        → ruled w at v (at + n) ≡ held_to test at (number_at s at)
    says test tells e = ap (λ (u : Verdict). ruled u at v (at + n)) (sym e ∙ tells v r (small s at are h) told) ∙ done_held test s at h refl

    pub held_against : {f : FaultAt} → (said r ≡ Against (number f.why)) × (f.place ≡ at) → HoldsTo Tells s at (Err f)
    held_against (e, p) = record { held = λ test tells. rw p (says test tells e) }

    pub held_value : said r ≡ Fine → HoldsTo Tells s at (Ok (record { value = v; next = at + n }))
    held_value e = record { held = λ test tells. says test tells e }
