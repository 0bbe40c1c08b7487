-- The second pass over the pairs: the numbers that the first pass judged go into the two sides.
use Prim.Native.Nat.{ℕ, ◌+◌, ◌*◌, ◌-◌, ◌<◌, ◌≤◌}
use mathlib.Core.List.{List, [], ◌∷◌}
use mathlib.Core.Path.{◌≡◌, refl, sym, ap, ◌∙◌}
use native.Mathlib.Omega.{arith}
use lib.ListN.{length, set, length-set}
use Rattle.verdict.specs.Verdict.{Verdict}
use Rattle.lent.proofs.Putting.{put_one, put_laid, Left, left_first, left_step, left_done}
use Rattle.numbers.specs.Numbers.{number_at}
use Rattle.numbers.specs.Numbers.Number.{Value, Fault}
use Rattle.numbers.specs.Format.{Format, ended, item, many, got, reading}
use Rattle.numbers.proofs.Parts.{many_none, many_more, many_length, reading_ended}
use Rattle.patternfile.proofs.Filling.{First, item_first, item_fault}
use Rattle.evidencefile.specs.EvidenceFile.{alternating}
use Rattle.evidencefile.specs.Parts.{FilledPairs}
use Rattle.evidencefile.proofs.Sides.{alternating_length, Split, split, no_sides}

-- of the pairs that stand there, those of ls and rs are still to be laid, from index i on
pub record Remaining (s lefts rights lefts' rights' : List ℕ) (test : ℕ → Verdict) (ls rs : List ℕ) (next left i place : ℕ) : Type 0 where
  pub more_lefts : List ℕ
  pub more_rights : List ℕ
  pub paired : length more_lefts ≡ length more_rights
  pub stand : reading (many (2 * left) test ended) s place ≡ got (alternating more_lefts more_rights) next
  pub laying_lefts : Left lefts 0 ls lefts' i more_lefts
  pub laying_rights : Left rights 0 rs rights' i more_rights

pub record Filling (s : List ℕ) (at count : ℕ) (lefts rights lefts' rights' : List ℕ) (i place : ℕ) : Type 0 where
  pub lefts_long : length lefts' ≡ length lefts
  pub rights_long : length rights' ≡ length rights
  pub left : (test : ℕ → Verdict) (ls rs : List ℕ) (next : ℕ) → length ls ≡ length rs → reading (many (2 * count) test ended) s at ≡ got (alternating ls rs) next
      → Remaining s lefts rights lefts' rights' test ls rs next (count - i) i place

pub filling_first : (s : List ℕ) (at count : ℕ) (lefts rights : List ℕ) → count ≤ length lefts → count ≤ length rights → Filling s at count lefts rights lefts rights 0 at
filling_first s at count lefts rights l r =
    let e : count - 0 ≡ count = omega arith in
    record {
      lefts_long = refl;
      rights_long = refl;
      left = λ test ls rs next p h.
          let size : length ls ≡ count = omega (arith, many_length (2 * count) test s at (alternating ls rs) next h, alternating_length ls rs p) in
          record {
            more_lefts = ls;
            more_rights = rs;
            paired = p;
            stand = ap (λ (n : ℕ). reading (many (2 * n) test ended) s at) e ∙ h;
            laying_lefts = left_first lefts 0 ls (omega (arith, size, l));
            laying_rights = left_first rights 0 rs (omega (arith, size, p, r));
          };
    }

-- some numbers, the first of them apart
first_apart : (s : List ℕ) (test : ℕ → Verdict) (m place : ℕ) (us : List ℕ) (next : ℕ) → 0 < m → reading (many m test ended) s place ≡ got us next
    → reading (item test (λ v. many (m - 1) test ended)) s place ≡ got us next
first_apart s test m place us next h q = sym (ap (λ (f : Format). reading f s place) (many_more m test ended h)) ∙ q

module _ {s : List ℕ} {at count : ℕ} {lefts rights lefts' rights' : List ℕ} {i place : ℕ} (g : Filling s at count lefts rights lefts' rights' i place) (h : i < count) where
  -- no left side stands there
  pub filling_no_left : {w p : ℕ} → number_at s place ≡ Fault w p → FilledPairs s at count lefts rights lefts' rights'
  filling_no_left e =
      record {
        filled = λ test ls rs next p r.
            let l = g.left test ls rs next p r in
            let m = 2 * (count - i) in
            absurd (item_fault test (λ v. many (m - 1) test ended) s place _ next e (first_apart s test m place _ next (omega arith) l.stand));
      }

  module _ {l to : ℕ} (e : number_at s place ≡ Value l to) where
    -- a left side stands there, and the rest behind it
    left_read : (test : ℕ → Verdict) (us : List ℕ) (next : ℕ) → reading (many (2 * (count - i)) test ended) s place ≡ got us next
        → First (λ v. many (2 * (count - i) - 1) test ended) s us next l to
    left_read test us next q =
        let m = 2 * (count - i) in
        item_first test (λ v. many (m - 1) test ended) s place us next l to e (first_apart s test m place us next (omega arith) q)

    pub filling_no_right : {w p : ℕ} → number_at s to ≡ Fault w p → FilledPairs s at count lefts rights lefts' rights'
    filling_no_right e' =
        record {
          filled = λ test ls rs next p r.
              let k = g.left test ls rs next p r in
              let m = 2 * (count - i) in
              let f = left_read test _ next k.stand in
              absurd (item_fault test (λ v. many (m - 1 - 1) test ended) s to _ next e' (first_apart s test (m - 1) to _ next (omega arith) f.read));
        }

    module _ {r end : ℕ} (e' : number_at s to ≡ Value r end) (in_lefts : i < length lefts') (in_rights : i < length rights') where
      stepped : (test : ℕ → Verdict) (ls rs : List ℕ) (next : ℕ) → Remaining s lefts rights lefts' rights' test ls rs next (count - i) i place
          → Remaining s lefts rights (set lefts' i l) (set rights' i r) test ls rs next (count - (i + 1)) (i + 1) end
      stepped test ls rs next k =
          let m = 2 * (count - i) in
          let f = left_read test _ next k.stand in
          let f' = item_first test (λ v. many (m - 1 - 1) test ended) s to f.ws next r end e' (first_apart s test (m - 1) to f.ws next (omega arith) f.read) in
          let n : m - 1 - 1 ≡ 2 * (count - (i + 1)) = omega arith in
          let two : alternating k.more_lefts k.more_rights ≡ l ∷ r ∷ f'.ws = f.are ∙ ap (λ (t : List ℕ). l ∷ t) f'.are in
          let p : Split k.more_lefts k.more_rights l r f'.ws = split k.more_lefts k.more_rights l r f'.ws k.paired two in
          record {
            more_lefts = p.lefts;
            more_rights = p.rights;
            paired = p.paired;
            stand = ap (λ (c : ℕ). reading (many c test ended) s end) (sym n) ∙ f'.read ∙ ap (λ (t : List ℕ). got t next) p.rest;
            laying_lefts = left_step p.lefts k.laying_lefts p.are_lefts (put_one lefts' i l in_lefts);
            laying_rights = left_step p.rights k.laying_rights p.are_rights (put_one rights' i r in_rights);
          }

      pub filling_step : Filling s at count lefts rights (set lefts' i l) (set rights' i r) (i + 1) end
      filling_step =
          record {
            lefts_long = length-set lefts' i l ∙ g.lefts_long;
            rights_long = length-set rights' i r ∙ g.rights_long;
            left = λ test ls rs next p q. stepped test ls rs next (g.left test ls rs next p q);
          }

pub filling_done : {s : List ℕ} {at count : ℕ} {lefts rights lefts' rights' : List ℕ} {i place : ℕ} → Filling s at count lefts rights lefts' rights' i place → count ≤ i
    → FilledPairs s at count lefts rights lefts' rights'
filling_done {s} {count = count} {i = i} {place} g h =
    record {
      filled = λ test ls rs next p r.
          let k = g.left test ls rs next p r in
          let z : 2 * (count - i) ≡ 0 = omega arith in
          let n : got [] place ≡ got (alternating k.more_lefts k.more_rights) next =
          sym (reading_ended s place)
          ∙ sym (ap (λ (f : Format). reading f s place) (many_none test ended))
          ∙ sym (ap (λ (m : ℕ). reading (many m test ended) s place) z)
          ∙ k.stand in
          let e : alternating k.more_lefts k.more_rights ≡ [] = cc in
          let (a, b) = no_sides k.more_lefts k.more_rights k.paired e in
          (put_laid (left_done k.laying_lefts a), put_laid (left_done k.laying_rights b));
    }
