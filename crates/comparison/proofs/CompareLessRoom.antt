-- The call in a smaller room: the same, or FULL with the first records of the larger one. Assumes nothing.
use Rattle.std.specs.Prelude.{Ok}
use mathlib.Core.Path.{◌≡◌, refl, sym, ap, ◌∙◌}
use mathlib.Core.Logic.{◌↔◌}
use mathlib.Core.List.{List, [], ◌∷◌, map}
use Prim.Native.Nat.{ℕ, zero, suc, ◌≤◌, ◌<◌}
use native.Mathlib.Decide.{dec_lt}
use native.Mathlib.Omega.{arith}
use lib.ListN.{length, get_or, take, length-map}
use lib.Seq.{length-take-le}
use Rattle.verdict.proofs.Ordered.{apart}
use Rattle.lent.proofs.Laying.{take_lay_less, get_d_lay}
use Rattle.pattern.specs.Pattern.{Sized}
use Rattle.walk.specs.Walk.{Question, Record, Outcome, kept_of, word_of, Walk}
use Rattle.walk.specs.Columns.{Field, value, Columns, column, columns_of, lay_columns, firsts}
use Rattle.walk.specs.Meaning.{number_kept, cut_to}
use Rattle.walk.proofs.Columns.{columns_path}
use Rattle.walk.proofs.WalkUnique.{walk_unique}
use Rattle.walk.proofs.LessRoom.{room_suffices, less_room}
use Rattle.comparison.specs.Answers.{Answered, number_of, values_of, Lent, answer_of, lay_out, Compared}
use Rattle.comparison.specs.Answers.Compared.{refuses, walks}
use Rattle.comparison.specs.Meaning.{IsRefused, Roomy, SameWritten, LessRoom}
use Rattle.comparison.specs.declared.Answer.{Answer}
use Rattle.comparison.proofs.Asking.{compare_fine}
use Rattle.comparison.proofs.Standing.{laid, firsts_laid}
use Rattle.comparison.proofs.CompareHonest.{compare_honest}
use Rattle.comparison.proofs.CompareRoom.{alike, kept_is}

-- ---- the first records of a list that holds more

take_map : (f : Record → ℕ) (n : ℕ) (kept : List Record) → map f (take n kept) ≡ take n (map f kept)
take_map f zero kept = refl
take_map f (suc n) [] = refl
take_map f (suc n) (r ∷ kept) = ap (λ (xs : List ℕ). f r ∷ xs) (take_map f n kept)

module _ (kept : List Record) (old : Columns) (n : ℕ) where
  firsts_of : n ≤ length kept → firsts n (lay_columns kept old) ≡ columns_of (take n kept)
  firsts_of h =
      columns_path (λ (x : Field). take n (column x (lay_columns kept old))) (λ (x : Field). map (value x) (take n kept))
      (λ x. ap (take n) (laid kept old x)
      ∙ take_lay_less (map (value x) kept) (column x old) n (rw (length-map kept (value x)) h)
      ∙ sym (take_map (value x) n kept))

  value_laid : n < length kept → (x : Field) → get_or (column x (lay_columns kept old)) n 0 ≡ get_or (map (value x) kept) n 0
  value_laid h x =
      ap (λ (xs : List ℕ). get_or xs n 0) (laid kept old x) ∙ get_d_lay (map (value x) kept) (column x old) 0 n (rw (length-map kept (value x)) h)

number_laid : (k : ℕ) (kept : List Record) (old : Columns) (n : ℕ) → n < length kept → number_kept k (lay_columns kept old) n ≡ number_kept k (columns_of kept) n
number_laid k kept old zero h = refl
number_laid k kept old (suc n) h = rw (value_laid kept old (suc n) h Field.parent, value_laid kept old (suc n) h Field.letter)

-- ---- one question in two rooms

module _ {Q : Question} (sized : Sized Q.pattern.states Q.pattern.letters) {room more : ℕ} (le : room ≤ more) (lent lent' : Lent) where
  less : (o o' : Outcome) → Walk Q room o → Walk Q more o'
      → LessRoom Q.pattern.letters room (answer_of o') (lay_out (kept_of o') (word_of o') lent') (answer_of o) (lay_out (kept_of o) (word_of o) lent)
  less o o' v w = record { same = as_it_was; full = cut }
    where
      as_it_was : (values_of (answer_of o')).kept ≤ room → (answer_of o ≡ answer_of o')
          × SameWritten (values_of (answer_of o')).kept (values_of (answer_of o')).length (lay_out (kept_of o) (word_of o) lent) (lay_out (kept_of o') (word_of o') lent')
      as_it_was h =
          let e : o ≡ o' = walk_unique v (room_suffices room le (rw (kept_is o') at h) w) in
          (ap answer_of e, rw e (alike o' lent lent'))

      cut : room < (values_of (answer_of o')).kept
          → (answer_of o ≡ Ok (Answer.Full room (suc (number_kept Q.pattern.letters (lay_columns (kept_of o') lent'.columns) room))))
          × SameWritten room 0 (lay_out (kept_of o) (word_of o) lent) (lay_out (kept_of o') (word_of o') lent')
      cut h =
          let kept = kept_of o' in
          let l : room < length kept = rw (kept_is o') at h in
          let n : length (take room kept) ≡ room = length-take-le room kept (omega arith) in
          let e : o ≡ cut_to Q room kept = walk_unique v (less_room sized room l w) in
          let first : firsts room (lay_columns (take room kept) lent.columns) ≡ columns_of (take room kept) =
          rw n at (firsts_laid (take room kept) lent.columns) in
          rw (e, number_laid Q.pattern.letters kept lent'.columns room l) (
            ap (λ (m : ℕ). Ok (Answer.Full m (suc (number_kept Q.pattern.letters (columns_of kept) room)))) n,
            record { columns = first ∙ sym (firsts_of kept lent'.columns room (omega arith)); sequence = refl },
          )

-- the larger call says all of the smaller: its answer and its numbers, and the records that it leaves
pub compare_less_room : {Q : Question} {room more : ℕ} {lent lent' : Lent} {a b : Answered} {l m : Lent} → room ≤ more → Roomy room lent
    → Compared (record { question = Q; room = room; lent = lent }) a l → Compared (record { question = Q; room = more; lent = lent' }) b m
    → (IsRefused b → ⊥) → LessRoom Q.pattern.letters room b m a l
compare_less_room le r x (refuses e) t = absurd (t tt)
compare_less_room le r (refuses e) (walks g w) t = apart ((compare_fine _).1 (((compare_fine _).0 g).0, r)) e
compare_less_room {lent = lent} {lent'} le r (walks {o} f v) (walks {o = o'} g w) t = less ((compare_fine _).0 g).0.valid.sized le lent lent' o o' v w

-- FULL in the smaller exactly when the larger keeps more than it allows
pub compare_full_beside : {Q : Question} {room more : ℕ} {lent lent' : Lent} {a b : Answered} {l m : Lent} → room < more → Roomy room lent
    → Compared (record { question = Q; room = room; lent = lent }) a l → Compared (record { question = Q; room = more; lent = lent' }) b m
    → (IsRefused b → ⊥) → (number_of a ≡ 2) ↔ (room < (values_of b).kept)
compare_full_beside {Q} {room} {a = a} {b} {l} {m} lt r x y t = (λ z. pick z (dec_lt room (values_of b).kept), λ h. ap number_of (less_said.full h).0)
  where
    less_said : LessRoom Q.pattern.letters room b m a l
    less_said = compare_less_room (omega arith) r x y t

    pick : number_of a ≡ 2 → Dec (room < (values_of b).kept) → room < (values_of b).kept
    pick z (yes h) = h
    pick z (no n) = omega (arith, (compare_honest y).room_kept (ap number_of (sym (less_said.same (omega arith)).0) ∙ z))
