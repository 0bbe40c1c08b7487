-- The walk of X+Y and Y decides the one-way question of X and Y: SAME means that X lies within Y as languages, and the sequence of DIFFERENT is
-- accepted from X and not from Y. What the walk is in any room, and what room is enough, are the theorems over the walk of any question, said of
-- this one. Assumes nothing.
use mathlib.Core.Logic.{◌↔◌}
use mathlib.Core.List.{List}
use Prim.Native.Nat.{ℕ, ◌+◌, ◌≤◌, ◌<◌}
use lib.ListN.{length}
use Rattle.pattern.specs.Pattern.{Sized}
use Rattle.pattern.specs.Inclusion.{LanguageWithin, Escapes}
use Rattle.pattern.proofs.Inclusion.{union_within, union_escapes}
use Rattle.pattern.proofs.Unions.{good_both}
use Rattle.walk.specs.Walk.{Question, Record, Outcome, kept_of, Walk}
use Rattle.walk.specs.Walk.Outcome.{Same, Different, Full}
use Rattle.walk.specs.Meaning.{Proper, Settled, Outgrows, Tells, Covers}
use Rattle.walk.specs.Inclusion.{joined}
use Rattle.walk.proofs.WalkEnds.{walk_ends}
use Rattle.walk.proofs.SameMeansSame.{same_means_same}
use Rattle.walk.proofs.DifferentMeansDifferent.{different_means_different}
use Rattle.walk.proofs.MoreRoom.{more_room}
use Rattle.walk.proofs.FullExactly.{full_exactly}
use Rattle.walk.proofs.RoomEnough.{room_enough, never_full}

-- the one is valid exactly where the other is
pub proper_joined : {Q : Question} → Proper Q ↔ Proper (joined Q)
proper_joined = (
  λ p. record { valid = p.valid; left_good = good_both.1 (p.left_good, p.right_good); right_good = p.right_good },
  λ p. record { valid = p.valid; left_good = (good_both.0 p.left_good).0; right_good = p.right_good },
)

-- what tells X+Y and Y apart
pub tells_escapes : {Q : Question} {w : List ℕ} → Tells (joined Q) w → Escapes Q.pattern Q.left Q.right w
tells_escapes t = union_escapes t.letters t.differ

module _ (Q : Question) {room : ℕ} (sized : Sized Q.pattern.states Q.pattern.letters) where
  pub within_means_within : {kept : List Record} {e : ℕ} → Walk (joined Q) room (Same kept e) → LanguageWithin Q.pattern Q.left Q.right
  within_means_within w = union_within.0 (same_means_same sized w)

  pub not_within_escapes : {kept : List Record} {e : ℕ} {u : List ℕ} → Walk (joined Q) room (Different kept e u) → Escapes Q.pattern Q.left Q.right u
  not_within_escapes w = tells_escapes (different_means_different sized w)

  -- fewer records are kept than sets are reached from X+Y or from Y, and a room of one less than those is never full
  pub joined_room_enough : {sets : List ℕ} {o : Outcome} → Covers (joined Q) sets → Walk (joined Q) room o → length (kept_of o) < length sets
  joined_room_enough covers w = room_enough sized covers w

  pub joined_never_full : {sets : List ℕ} {kept : List Record} {e : ℕ} → Covers (joined Q) sets → length sets ≤ room + 1 → Walk (joined Q) room (Full kept e) → ⊥
  joined_never_full covers h w = never_full sized covers h w

-- a valid question has an outcome in every room
pub joined_ends : (Q : Question) → Proper Q → (room : ℕ) → (o : Outcome) × Walk (joined Q) room o
joined_ends Q p room = walk_ends (joined Q) (proper_joined.0 p) room

-- FULL exactly where that walk has to keep one more pair than the room allows
pub joined_full_exactly : (Q : Question) → Proper Q → (room : ℕ) → ((kept : List Record) × (e : ℕ) × Walk (joined Q) room (Full kept e)) ↔ Outgrows (joined Q) room
joined_full_exactly Q p room = full_exactly (proper_joined.0 p) room

-- any other outcome is that of every larger room
pub joined_more_room : (Q : Question) {room more : ℕ} {o : Outcome} → room ≤ more → Settled o → Walk (joined Q) room o → Walk (joined Q) more o
joined_more_room Q {more = more} le s w = more_room more le s w
