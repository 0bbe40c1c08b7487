-- The reader's loop: what the groups read so far are worth stands in front of what is still to be read.
use Prim.Native.Nat.{ℕ, suc, ◌+◌, ◌*◌, ◌-◌, ◌^◌, ◌<◌, ◌≤◌}
use mathlib.Core.List.{List, ◌∷◌}
use mathlib.Core.Path.{◌≡◌, refl, sym, ap, ◌∙◌}
use native.Mathlib.Decide.{dec_lt}
use native.Mathlib.Nat.{pow-suc, pow-le-pow_right, mul-le-mul_right, add-mul, mul_assoc, mul_comm, zero-lt-suc}
use native.Mathlib.Numerals.{add-one}
use native.Mathlib.Omega.{arith}
use lib.ListN.{length, drop, get_or, drop_of_length-le}
use lib.Seq.{drop-cons}
use Rattle.std.proofs.lemmas.List.{length-drop, get_or-drop}
use Rattle.verdict.specs.Verdict.Verdict.{Fine, Against}
use Rattle.numbers.specs.Numbers.{byte_test, Form, whole, faulty, more, groups, answered, read_at}
use Rattle.numbers.proofs.Groups.{fine_tenth, fine_more, groups_none, groups_bad, groups_last, groups_more}

-- i groups, worth value in all, in front of a form
abbrev pub carry : ℕ → ℕ → ℕ → Form → Form
carry value weight i (whole v n) = whole (value + v * weight) (i + n)
carry value weight i (faulty w) = faulty w

pub record Going (rest : List ℕ) (value weight i : ℕ) : Type 0 where
  pub few : i ≤ 9
  pub power : weight ≡ 128 ^ i
  pub small : value < weight
  pub same : groups 0 rest ≡ carry value weight i (groups i (drop i rest))

carry_more : (value weight i g : ℕ) (f : Form) → carry value weight i (more g f) ≡ carry (value + g * weight) (weight * 128) (i + 1) f
carry_more value weight i g (whole v n) =
    let x : (g + v * 128) * weight ≡ g * weight + v * (weight * 128) =
    add-mul g (v * 128) weight ∙ ap (λ (z : ℕ). g * weight + z) (mul_assoc v 128 weight ∙ ap (λ (z : ℕ). v * z) (mul_comm 128 weight)) in
    let y : value + (g + v * 128) * weight ≡ value + g * weight + v * (weight * 128) = omega arith in
    let z : i + suc n ≡ i + 1 + n = omega arith in
    cc
carry_more value weight i g (faulty w) = refl

powers : (i j : ℕ) → i ≤ j → 128 ^ i ≤ 128 ^ j
powers i j h = pow-le-pow_right (zero-lt-suc 127) h

-- what stands at a place is what the data from there on say
pub answer_is : (s : List ℕ) (at : ℕ) {f : Form} → groups 0 (drop at s) ≡ f → answered at f ≡ read_at s at
unfolding read_at
answer_is s at h = rw h

module _ {rest : List ℕ} {value weight i : ℕ} (g : Going rest value weight i) where
  pub going_cut : length rest ≤ i → groups 0 rest ≡ faulty 20
  going_cut h = g.same ∙ ap (carry value weight i) (ap (groups i) (drop_of_length-le rest h) ∙ groups_none i)

  module _ {b : ℕ} (h : i < length rest) (e : b ≡ get_or rest i 0) where
    head : groups i (drop i rest) ≡ groups i (b ∷ drop (suc i) rest)
    head = ap (groups i) (drop-cons rest i 0 h ∙ rw e)

    pub going_bad : {w : ℕ} → byte_test i b ≡ Against w → groups 0 rest ≡ faulty w
    going_bad j = g.same ∙ ap (carry value weight i) (head ∙ groups_bad i b (drop (suc i) rest) j)

    pub going_last : byte_test i b ≡ Fine → b < 128 → groups 0 rest ≡ whole (value + b * weight) (i + 1)
    going_last j l = g.same ∙ ap (carry value weight i) (head ∙ groups_last i b (drop (suc i) rest) j l)

    pub going_more : byte_test i b ≡ Fine → 128 ≤ b → b < 256 → Going rest (value + (b - 128) * weight) (weight * 128) (i + 1)
    going_more j l u =
        let n : i < 9 = fine_more i b j l in
        let q : (b - 128) * weight ≤ 127 * weight = mul-le-mul_right weight (omega arith) in
        record {
          few = omega arith;
          power = rw (add-one, pow-suc 128 i, g.power);
          small = omega (arith, g.small);
          same =
              g.same
              ∙ ap (carry value weight i) (head ∙ groups_more i b (drop (suc i) rest) j l)
              ∙ carry_more value weight i (b - 128) (groups (suc i) (drop (suc i) rest))
              ∙ rw (add-one i);
        }

  -- the sums fit: a value with its last group is below 2 ^ 64, and one that goes on is below the next weight
  module _ {b : ℕ} (j : byte_test i b ≡ Fine) where
    pub last_fits : b < 128 → value + b * weight < 2 ^ 64
    last_fits l =
        elim (dec_lt i 9) [
          | yes n ↦
              let q : b * weight ≤ 127 * weight = mul-le-mul_right weight (omega arith) in
              let r : 128 ^ i ≤ 128 ^ 8 = powers i 8 (omega arith) in
              let k : weight ≤ 2 ^ 56 = omega (arith, g.power) in
              omega (arith, g.small)
          | no n ↦
              let o : b ≡ 1 = fine_tenth i b j (omega arith) in
              let q : b * weight ≤ 1 * weight = mul-le-mul_right weight (omega arith) in
              let r : 128 ^ i ≤ 128 ^ 9 = powers i 9 g.few in
              let k : weight ≤ 2 ^ 63 = omega (arith, g.power) in
              omega (arith, g.small)
        ]

    pub weight_fits : 128 ≤ b → weight * 128 < 2 ^ 64
    weight_fits l =
        let n : i < 9 = fine_more i b j l in
        let r : 128 ^ i ≤ 128 ^ 8 = powers i 8 (omega arith) in
        let k : weight ≤ 2 ^ 56 = omega (arith, g.power) in
        omega arith

    pub more_fits : 128 ≤ b → b < 256 → value + (b - 128) * weight < 2 ^ 64
    more_fits l u =
        let q : (b - 128) * weight ≤ 127 * weight = mul-le-mul_right weight (omega arith) in
        omega (arith, weight_fits l, g.small)

-- ---- where the code's loop stands: the bytes from at up to place are read

pub record Reached (bytes : List ℕ) (at place value weight : ℕ) : Type 0 where
  pub behind : at ≤ place
  pub going : Going (drop at bytes) value weight (place - at)

module _ {bytes : List ℕ} {at place value weight : ℕ} (r : Reached bytes at place value weight) where
  pub reached_below : place < length bytes → place - at < length (drop at bytes)
  reached_below h = omega (arith, length-drop at bytes, r.behind)

  pub reached_byte : {b : ℕ} → b ≡ get_or bytes place 0 → b ≡ get_or (drop at bytes) (place - at) 0
  reached_byte e =
      let there : at + (place - at) ≡ place = omega (arith, r.behind) in
      e ∙ sym (get_or-drop at bytes (place - at) 0 ∙ ap (λ (j : ℕ). get_or bytes j 0) there)

  pub reached_end : length bytes ≤ place → length (drop at bytes) ≤ place - at
  reached_end h = omega (arith, length-drop at bytes, r.behind)

  pub reached_next : {value' weight' : ℕ} → Going (drop at bytes) value' weight' (place - at + 1) → Reached bytes at (place + 1) value' weight'
  reached_next g =
      let on : place - at + 1 ≡ place + 1 - at = omega (arith, r.behind) in
      record { behind = omega (arith, r.behind); going = rw on at g }
