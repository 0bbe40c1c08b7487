-- The check of the sides that are gathered from a list of records is the check of the whole list. Assumes nothing.
use mathlib.Core.Path.{◌≡◌, refl, sym, ap, ◌∙◌}
use mathlib.Core.List.{List, ◌∷◌}
use Prim.Native.Nat.{ℕ, ◌≤◌, ◌<◌}
use native.Mathlib.Omega.{arith}
use native.Mathlib.Decide.{dec_le}
use borrow.Author.Tests.{lt-leb}
use lib.ListN.{length, take, length-map}
use lib.Seq.{take_all, length-take-le}
use Rattle.verdict.specs.Verdict.{Verdict}
use Rattle.verdict.specs.Verdict.Verdict.{Fine, Against}
use Rattle.verdict.specs.Tests.{in_order}
use Rattle.verdict.proofs.Ordered.{apart, need_fails, order_fine}
use Rattle.pattern.specs.Tests.{shape_test}
use Rattle.pattern.specs.Pattern.{Pattern}
use Rattle.sets.specs.Rooms.{max_room}
use Rattle.walk.specs.Columns.{Field}
use Rattle.evidence.specs.Evidence.{Offer, list_test, check_test, Checked}
use Rattle.std.specs.Prelude.{Result}
use Rattle.verdict.specs.declared.Refusal.{Refusal}
use Rattle.walk.specs.Walk.{Question}
use Rattle.evidence.specs.declared.Answer.{Answer}
use Rattle.evidence.specs.Evidence.Checked.{refuses, not_started, started}
use Rattle.records.specs.declared.PbRecord.{PbRecord}
use Rattle.records.specs.Offers.{offer_for}
use Rattle.records.specs.Records.{value_in, columns_in}
use Rattle.records.specs.Inner.{Shown, Gathers}

-- a list that is too long is refused, and then nothing after it matters
too_long : (n : ℕ) → max_room < n → list_test n n ≡ Against 16
unfolding list_test
too_long n h = need_fails _ 16 (rw (lt-leb n max_room h) refl)

stops : (v : Verdict) (w : ℕ) (a b : List Verdict) → in_order (v ∷ Against w ∷ a) ≡ in_order (v ∷ Against w ∷ b)
unfolding in_order
stops Fine w a b = refl
stops (Against u) w a b = refl

abbrev offer : Pattern → ℕ → ℕ → List ℕ → List ℕ → Offer
offer P x y lefts rights = record { pattern = P; x = x; y = y; lefts = lefts; rights = rights }

-- two lists that are too long are refused alike
module _ (P : Pattern) (x y : ℕ) (ls rs ls' rs' : List ℕ) (same : length ls ≡ length rs) (same' : length ls' ≡ length rs') (h : max_room < length ls) (h' : max_room < length ls') where
  long_left : list_test (length ls) (length rs) ≡ Against 16
  long_left = ap (list_test (length ls)) (sym same) ∙ too_long (length ls) h

  long_right : list_test (length ls') (length rs') ≡ Against 16
  long_right = ap (list_test (length ls')) (sym same') ∙ too_long (length ls') h'

  refused_alike : check_test (offer P x y ls rs) ≡ check_test (offer P x y ls' rs')
  unfolding check_test
  refused_alike = rw (long_left, long_right) (stops (shape_test P) 16 _ _)

  never_fine : check_test (offer P x y ls rs) ≡ Fine → ⊥
  unfolding check_test
  never_fine e = apart ((order_fine _).0 e).1.0 long_left

  checked_alike : {a : Result Answer Refusal} → Checked (offer P x y ls rs) a → Checked (offer P x y ls' rs') a
  checked_alike (refuses e) = refuses (sym refused_alike ∙ e)
  checked_alike (not_started e f) = absurd (never_fine e)
  checked_alike (started e f g) = absurd (never_fine e)

-- the offer of the whole list
abbrev all : Pattern → ℕ → ℕ → List PbRecord → Offer
all P x y records = offer P x y (columns_in records).lefts (columns_in records).rights

-- the check of what is looked at of it is the check of it
pub checks_shown : (Q : Question) (records : List PbRecord) (n : ℕ) (lefts rights : List ℕ) {a : Result Answer Refusal} → Shown (length records) n → Gathers records n lefts rights
    → Checked (offer Q.pattern Q.left Q.right (take n lefts) (take n rights)) a → Checked (offer_for Q (columns_in records)) a
checks_shown Q records n lefts rights {a} s g k = cases (dec_le (length records) max_room)
  where
    front : Checked (offer Q.pattern Q.left Q.right (take n (columns_in records).lefts) (take n (columns_in records).rights)) a
    front = rw (← g.lefts_are, ← g.rights_are) k

    lefts_long : length (columns_in records).lefts ≡ length records
    lefts_long = length-map records (value_in Field.left)

    rights_long : length (columns_in records).rights ≡ length records
    rights_long = length-map records (value_in Field.right)

    cases : Dec (length records ≤ max_room) → Checked (offer_for Q (columns_in records)) a
    cases (yes p) =
        let e = s.whole p in
        rw (take_all n (columns_in records).lefts (omega (arith, e, lefts_long)), take_all n (columns_in records).rights (omega (arith, e, rights_long))) at front
    cases (no p) =
        let e = s.long (omega (arith, p)) in
        let a = length-take-le n (columns_in records).lefts (omega (arith, e, p, lefts_long)) in
        let b = length-take-le n (columns_in records).rights (omega (arith, e, p, rights_long)) in
        checked_alike Q.pattern Q.left Q.right _ _ _ _ (a ∙ sym b) (lefts_long ∙ sym rights_long) (omega (arith, a, e)) (omega (arith, p, lefts_long)) front
