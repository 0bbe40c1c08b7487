-- The second pass: the numbers that the first pass judged go into the rows.
use Prim.Native.Nat.{ℕ, ◌+◌, ◌*◌, ◌-◌, ◌<◌, ◌≤◌}
use mathlib.Core.List.{List, [], ◌∷◌, ◌++◌, append-nil}
use mathlib.Core.Path.{◌≡◌, refl, sym, ap, subst, ◌∙◌}
use native.Mathlib.Omega.{arith}
use lib.ListN.{length, take, drop, set, length-set, drop_of_length-le}
use lib.Seq.{length-take-le}
use Rattle.std.specs.Prelude.{Ok}
use Rattle.verdict.specs.Verdict.{Verdict}
use Rattle.verdict.specs.Verdict.Verdict.{Fine, Against}
use Rattle.lent.specs.Lent.{lay}
use Rattle.lent.proofs.Putting.{put_one, put_laid, Left, left_first, left_step, left_done}
use Rattle.pattern.specs.Pattern.{Sized}
use Rattle.pattern.specs.Tests.{set_test}
use Rattle.numbers.specs.Numbers.{Number, encode, number_at, AreBytes}
use Rattle.numbers.specs.Numbers.Number.{Value, Fault}
use Rattle.numbers.specs.Format.{Format, ended, item, many, Reading, got, refused, held_to, or_refused, before, reading, encode_all, ruled}
use Rattle.numbers.proofs.Formats.{refused_got, file_write_after_read}
use Rattle.numbers.proofs.Parts.{many_none, many_more, many_length, reading_ended}
use Rattle.numbers.proofs.Steps.{file_stopped, file_tail, file_whole}
use Rattle.patternfile.specs.declared.PatternPart.{PatternPart}
use Rattle.patternfile.specs.PatternFile.{numbers_of, pattern_format}
use Rattle.patternfile.specs.Reader.{ReadDone, ReadRefused, with_rows}
use Rattle.patternfile.specs.Parts.{Judges, Filled}
use Rattle.patternfile.proofs.Contents.{part_valid, rows_stand}

-- ---- reading that went well, number by number

-- its first number is what stands there
pub record First (rest : ℕ → Format) (s us : List ℕ) (next v to : ℕ) : Type 0 where
  pub ws : List ℕ
  pub are : us ≡ v ∷ ws
  pub read : reading (rest v) s to ≡ got ws next

pub item_first : (test : ℕ → Verdict) (rest : ℕ → Format) (s : List ℕ) (at : ℕ) (us : List ℕ) (next v to : ℕ) → number_at s at ≡ Value v to → reading (item test rest) s at ≡ got us next
    → First rest s us next v to
unfolding reading
item_first test rest s at us next v to e h =
    judged (test v) (sym (ap (λ (n : Number). or_refused (held_to test at n) (λ v next. before v (reading (rest v) s next))) e) ∙ h)
  where
    go : (r : Reading) → reading (rest v) s to ≡ r → before v r ≡ got us next → First rest s us next v to
    go (refused w p) q h = absurd (refused_got h)
    go (got ws n) q h = let x : us ≡ v ∷ ws = cc in let y : n ≡ next = cc in record { ws = ws; are = x; read = q ∙ ap (got ws) y }

    judged : (u : Verdict) → or_refused (ruled u at v to) (λ v next. before v (reading (rest v) s next)) ≡ got us next → First rest s us next v to
    judged (Against w) h = absurd (refused_got h)
    judged Fine h = go (reading (rest v) s to) refl h

pub item_fault : (test : ℕ → Verdict) (rest : ℕ → Format) (s : List ℕ) (at : ℕ) (us : List ℕ) (next : ℕ) {w p : ℕ} → number_at s at ≡ Fault w p → reading (item test rest) s at ≡ got us next → ⊥
unfolding reading
item_fault test rest s at us next e h = refused_got (sym (ap (λ (n : Number). or_refused (held_to test at n) (λ v next. before v (reading (rest v) s next))) e) ∙ h)

-- ---- the loop

-- of the numbers vs that stand there, us are still to be laid, from index i on
pub record Remaining (s old rows : List ℕ) (test : ℕ → Verdict) (vs : List ℕ) (next left i place : ℕ) : Type 0 where
  pub us : List ℕ
  pub stand : reading (many left test ended) s place ≡ got us next
  pub laying : Left old 0 vs rows i us

pub record Filling (s : List ℕ) (at count : ℕ) (old rows : List ℕ) (i place : ℕ) : Type 0 where
  pub long : length rows ≡ length old
  pub left : (test : ℕ → Verdict) (vs : List ℕ) (next : ℕ) → reading (many count test ended) s at ≡ got vs next → Remaining s old rows test vs next (count - i) i place

pub filling_first : (s : List ℕ) (at count : ℕ) (old : List ℕ) → count ≤ length old → Filling s at count old old 0 at
filling_first s at count old l =
    let e : count ≡ count - 0 = omega arith in
    record {
      long = refl;
      left = λ test vs next h.
          record {
            us = vs;
            stand = ap (λ (n : ℕ). reading (many n test ended) s at) (sym e) ∙ h;
            laying = left_first old 0 vs (omega (arith, many_length count test s at vs next h));
          };
    }

module _ {s : List ℕ} {at count : ℕ} {old rows : List ℕ} {i place : ℕ} (g : Filling s at count old rows i place) where
  -- one number at least is left
  some_left : i < count → (test : ℕ → Verdict) (us : List ℕ) (next : ℕ) → reading (many (count - i) test ended) s place ≡ got us next
      → reading (item test (λ v. many (count - i - 1) test ended)) s place ≡ got us next
  some_left h test us next q =
      let p : 0 < count - i = omega arith in
      sym (ap (λ (f : Format). reading f s place) (many_more (count - i) test ended p)) ∙ q

  pub filling_stopped : {w p : ℕ} → i < count → number_at s place ≡ Fault w p → Filled s at count old rows
  filling_stopped h e =
      record {
        filled = λ test vs next r.
            let l : Remaining s old rows test vs next (count - i) i place = g.left test vs next r in
            absurd (item_fault test (λ v. many (count - i - 1) test ended) s place l.us next e (some_left h test l.us next l.stand));
      }

  stepped : {v to : ℕ} → i < count → i < length rows → number_at s place ≡ Value v to → (test : ℕ → Verdict) (vs : List ℕ) (next : ℕ)
      → Remaining s old rows test vs next (count - i) i place → Remaining s old (set rows i v) test vs next (count - (i + 1)) (i + 1) to
  stepped {v} {to} h m e test vs next l =
      let n : count - (i + 1) ≡ count - i - 1 = omega arith in
      let r : First (λ v. many (count - i - 1) test ended) s l.us next v to =
      item_first test (λ v. many (count - i - 1) test ended) s place l.us next v to e (some_left h test l.us next l.stand) in
      record { us = r.ws; stand = rw n r.read; laying = left_step r.ws l.laying r.are (put_one rows i v m) }

  pub filling_step : {v to : ℕ} → i < count → i < length rows → number_at s place ≡ Value v to → Filling s at count old (set rows i v) (i + 1) to
  filling_step {v} {to} h m e = record { long = length-set rows i v ∙ g.long; left = λ test vs next r. stepped h m e test vs next (g.left test vs next r) }

  pub filling_done : count ≤ i → Filled s at count old rows
  filling_done h =
      record {
        filled = λ test vs next r.
            let l : Remaining s old rows test vs next (count - i) i place = g.left test vs next r in
            let z : count - i ≡ 0 = omega arith in
            let n : got [] place ≡ got l.us next =
            sym (reading_ended s place)
            ∙ sym (ap (λ (f : Format). reading f s place) (many_none test ended))
            ∙ sym (ap (λ (m : ℕ). reading (many m test ended) s place) z)
            ∙ l.stand in
            let e : l.us ≡ [] = cc in
            put_laid (left_done l.laying e);
      }

lay_front : (vs old : List ℕ) → length vs ≤ length old → lay vs (take (length vs) old) ++ drop (length vs) old ≡ lay vs old
unfolding lay
lay_front vs old h =
    let k = length-take-le (length vs) old h in
    ap (λ (l : List ℕ). vs ++ l ++ drop (length vs) old) (drop_of_length-le (take (length vs) old) (omega arith))
    ∙ ap (λ (l : List ℕ). l ++ drop (length vs) old) (append-nil vs)

-- numbers that fill the front of a buffer lie over the whole of it
pub filled_front : {s : List ℕ} {at count : ℕ} {old new : List ℕ} → count ≤ length old → Filled s at count (take count old) new → Filled s at count old (new ++ drop count old)
filled_front {s} {at} {count} {old} {new} h f =
    record {
      filled = λ test vs next r.
          let l : length vs ≡ count = many_length count test s at vs next r in
          ap (λ (l : List ℕ). l ++ drop count old) (f.filled test vs next r)
          ∙ ap (λ (n : ℕ). lay vs (take n old) ++ drop n old) (sym l)
          ∙ lay_front vs old (omega arith);
    }

-- the same, where the front was cut off at as many
pub filled_part : {s : List ℕ} {at count m : ℕ} {old new : List ℕ} → count ≤ length old → m ≡ count → Filled s at (length (take m old)) (take m old) new
    → Filled s at count old (new ++ drop m old)
filled_part {s} {at} {count} {m} {old} {new} h e f =
    let l : m ≤ length old = omega arith in
    subst (λ (n : ℕ). Filled s at n old (new ++ drop m old)) e (filled_front l (rw (length-take-le m old l) at f))

-- ---- the whole reader

module _ (s old : List ℕ) where
  pub reads_stopped : {w place : ℕ} → reading (pattern_format (length old)) s 0 ≡ refused w place → ReadRefused s old w place old
  reads_stopped q = record { fault = file_stopped (pattern_format (length old)) s q; unchanged = refl }

  module _ (part : PatternPart) (found : Judges s (length old) (Ok part)) where
    pub reads_tail : part.end < length s → ReadRefused s old 22 part.end old
    reads_tail h = record { fault = file_tail (pattern_format (length old)) s found.1.read h; unchanged = refl }

    module _ (are : AreBytes s) where
      pub reads_sized : Sized part.numbers.states part.numbers.letters
      reads_sized = (part_valid are found.1).valid.sized

      pub reads_room : part.numbers.states * part.numbers.letters ≤ length old
      reads_room = (part_valid are found.1).enough

      pub reads_done : {new : List ℕ} {at : ℕ} → at ≡ 2 + length (encode part.numbers.finals) → length s ≤ part.end → Filled s at (part.numbers.states * part.numbers.letters) old new
          → ReadDone s old part.numbers new
      reads_done e h g =
          let f = part.numbers in
          let numbers = numbers_of (with_rows f found.0) f.x f.y in
          let whole = file_whole (pattern_format (length old)) s found.1.read h in
          record {
            rows = found.0;
            file =
                record {
                  tabled = found.1.tabled;
                  read = whole ∙ ap (got numbers) (file_write_after_read (pattern_format (length old)) s numbers part.end are whole).takes_all;
                };
            written = g.filled (set_test f.states) found.0 (2 + length (encode f.finals) + length (encode_all found.0)) (rw e (rows_stand are found.1));
          }
