-- Demand 3 (the scope, §13.5), of the one-way question: what more room changes, and how much is enough: by the sets that sequences lead to from X+Y
-- or from Y. Assumes nothing.
use mathlib.Core.Path.{◌≡◌, sym, ap, ◌∙◌}
use mathlib.Core.Logic.{◌⊎◌, inl, inr}
use mathlib.Core.List.{List}
use Prim.Native.Nat.{ℕ, ◌+◌, ◌≤◌, ◌<◌}
use native.Mathlib.Omega.{arith}
use lib.ListN.{length}
use Rattle.walk.specs.Walk.{Question}
use Rattle.walk.specs.Meaning.{Covers}
use Rattle.walk.specs.Inclusion.{joined}
use Rattle.comparison.specs.Answers as Comparison
use Rattle.comparison.specs.Answers.{Answered, Values, Lent, Call, answer_of, Compared}
use Rattle.comparison.specs.Meaning.{Roomy, SameWritten}
use Rattle.comparison.specs.Inclusion.{AnsweredOneWay, number_of, values_of, answered_one_way, Included}
use Rattle.comparison.proofs.CompareHonest.{compare_honest}
use Rattle.comparison.proofs.CompareRoom.{compare_more_room, compare_room_enough, compare_never_full}
use Rattle.comparison.proofs.Joining.{joined_call, included_compared, values_joined, within_joined, not_within_joined, full_joined}

-- ---- more room

-- one question in two rooms: WITHIN and NOT-WITHIN stay in the larger, number for number, record for record and letter for letter, where that room is there
pub within_more_room : {Q : Question} {room more : ℕ} {lent lent' : Lent} {a b : AnsweredOneWay} {l m : Lent} → room ≤ more → Roomy more lent'
    → Included (record { question = Q; room = room; lent = lent }) a l → Included (record { question = Q; room = more; lent = lent' }) b m
    → (number_of a ≡ 8) ⊎ (number_of a ≡ 9) → (a ≡ b) × SameWritten (values_of a).kept (values_of a).length l m
within_more_room {a = a} {b} {l} {m} le r j k s =
    let (u, p, e) = included_compared j in
    let (v, q, f) = included_compared k in
    let (same, written) = compare_more_room le r p q (settled _ u p (rw e at s)) in
    (e ∙ ap answered_one_way same ∙ sym f, rw (e, values_joined u) written)
  where
    settled : (c : Call) {later : Lent} (u : Answered) → Compared (joined_call c) u later → (number_of (answered_one_way u) ≡ 8) ⊎ (number_of (answered_one_way u) ≡ 9) → Comparison.number_of u ≤ 1
    settled c u p (inl z) = omega (arith, (within_joined u (compare_honest p).high).0 z)
    settled c u p (inr z) = omega (arith, (not_within_joined u (compare_honest p).high).0 z)

-- ---- room enough, by a list that has every set reached from X+Y or from Y

module _ {c : Call} {a : AnsweredOneWay} {later : Lent} {sets : List ℕ} (covers : Covers (joined c.question) sets) (k : Included c a later) where
  -- fewer records are kept than there are sets
  pub within_room_enough : (values_of a).kept < length sets
  within_room_enough = let (b, p, e) = included_compared k in rw (e, values_joined b) (compare_room_enough covers p)

  -- and a room of one less than those is never FULL
  pub within_never_full : length sets ≤ c.room + 1 → number_of a ≡ 2 → ⊥
  within_never_full enough z =
      let (b, p, e) = included_compared k in
      compare_never_full covers enough p ((full_joined b (compare_honest p).high).0 (rw e at z))
