-- Demand 3 (the scope, §6.9, §6.10), of the call: what more room changes, and how much is enough. Assumes nothing.
use mathlib.Core.Path.{◌≡◌, refl, sym, ap, ◌∙◌}
use mathlib.Core.List.{List, []}
use Prim.Native.Nat.{ℕ, ◌+◌, ◌≤◌, ◌<◌}
use native.Mathlib.Omega.{arith}
use lib.ListN.{length}
use Rattle.verdict.proofs.Ordered.{apart}
use Rattle.pattern.specs.Language.Over.{empty}
use Rattle.lent.proofs.Laying.{take_lay}
use Rattle.walk.specs.Walk.{Question, Record, Outcome, kept_of, word_of}
use Rattle.walk.specs.Walk.Outcome.{Same, Different, Full}
use Rattle.walk.specs.Meaning.{Settled, Covers}
use Rattle.comparison.specs.Answers.{Answered, number_of, values_of, Lent, Call, answer_of, lay_out, Compared}
use Rattle.comparison.specs.Answers.Compared.{refuses, walks}
use Rattle.comparison.specs.Meaning.{Roomy, SameWritten}
use Rattle.comparison.proofs.Standing.{firsts_laid}
use Rattle.comparison.proofs.Asking.{compare_fine, refusal_number}
use Rattle.walk.proofs.WalkUnique.{walk_unique}
use Rattle.walk.proofs.MoreRoom.{more_room}
use Rattle.walk.proofs.RoomEnough.{some, room_enough, never_full}

-- ---- more room

settled : (o : Outcome) → number_of (answer_of o) ≤ 1 → Settled o
settled (Same kept e) h = tt
settled (Different kept e w) h = tt
settled (Full kept e) h = omega arith

same_written : (kept : List Record) (word : List ℕ) (old new : Lent) → SameWritten (length kept) (length word) (lay_out kept word old) (lay_out kept word new)
same_written kept word old new =
    record {
      columns = firsts_laid kept old.columns ∙ sym (firsts_laid kept new.columns);
      sequence = take_lay word old.sequence (length word) refl ∙ sym (take_lay word new.sequence (length word) refl);
    }

pub alike : (o : Outcome) (old new : Lent)
    → SameWritten (values_of (answer_of o)).kept (values_of (answer_of o)).length (lay_out (kept_of o) (word_of o) old) (lay_out (kept_of o) (word_of o) new)
alike (Same kept e) old new = same_written kept [] old new
alike (Different kept e w) old new = same_written kept w old new
alike (Full kept e) old new = same_written kept [] old new

-- one question in two rooms: SAME and DIFFERENT stay in the larger, number for number, record for record and letter for letter, where that room is there
pub compare_more_room : {Q : Question} {room more : ℕ} {lent lent' : Lent} {a b : Answered} {l m : Lent} → room ≤ more → Roomy more lent'
    → Compared (record { question = Q; room = room; lent = lent }) a l → Compared (record { question = Q; room = more; lent = lent' }) b m
    → number_of a ≤ 1 → (a ≡ b) × SameWritten (values_of a).kept (values_of a).length l m
compare_more_room le r (refuses e) k s = absurd (omega (arith, refusal_number _ e))
compare_more_room le r (walks f v) (refuses e) s = apart ((compare_fine _).1 (((compare_fine _).0 f).0, r)) e
compare_more_room {more = more} {lent} {lent'} le r (walks {o} f v) (walks {o = o'} g w) s =
    let e : o ≡ o' = walk_unique (more_room more le (settled o s) v) w in
    (ap answer_of e, rw (← e) (alike o lent lent'))

-- ---- room enough, by a list that has every set reached from either start

pub kept_is : (o : Outcome) → (values_of (answer_of o)).kept ≡ length (kept_of o)
kept_is (Same kept e) = refl
kept_is (Different kept e w) = refl
kept_is (Full kept e) = refl

-- fewer records are kept than there are sets
pub compare_room_enough : {c : Call} {a : Answered} {later : Lent} {sets : List ℕ} → Covers c.question sets → Compared c a later
    → (values_of a).kept < length sets
compare_room_enough {c} covers (refuses e) = some (covers.from_left [] empty)
compare_room_enough {c} covers (walks {o} f w) = rw (kept_is o) (room_enough ((compare_fine c).0 f).0.valid.sized covers w)

not_full : (o : Outcome) → ((kept : List Record) (e : ℕ) → o ≡ Full kept e → ⊥) → number_of (answer_of o) ≡ 2 → ⊥
not_full (Same kept e) f z = omega arith
not_full (Different kept e w) f z = omega arith
not_full (Full kept e) f z = f kept e refl

-- and a room of one less than those is never FULL
pub compare_never_full : {c : Call} {a : Answered} {later : Lent} {sets : List ℕ} → Covers c.question sets → length sets ≤ c.room + 1
    → Compared c a later → number_of a ≡ 2 → ⊥
compare_never_full {c} covers enough (refuses e) z = omega (arith, refusal_number c e)
compare_never_full {c} covers enough (walks {o} f w) z = not_full o (λ kept e y. never_full ((compare_fine c).0 f).0.valid.sized covers enough (rw y at w)) z
