-- `full_exactly`: FULL exactly when the walk has to keep one more pair than the room allows. Assumes nothing.
use mathlib.Core.Path.{◌≡◌}
use mathlib.Core.Logic.{◌↔◌}
use mathlib.Core.List.{List}
use Prim.Native.Nat.{ℕ, ◌+◌, ◌≤◌, ◌<◌}
use native.Mathlib.Decide.{dec_lt}
use native.Mathlib.Omega.{arith}
use lib.ListN.{length}
use Rattle.pattern.specs.Pattern.{Sized}
use Rattle.walk.specs.Walk.{Question, Record, Outcome, kept_of, Walk}
use Rattle.walk.specs.Walk.Outcome.{Full}
use Rattle.walk.specs.Meaning.{Proper, Outgrows}
use Rattle.walk.proofs.Counts.{counts}
use Rattle.walk.proofs.WalkUnique.{walk_unique}
use Rattle.walk.proofs.WalkEnds.{walk_ends}
use Rattle.walk.proofs.LessRoom.{room_suffices, less_room}

-- where a room is FULL, every larger one keeps more than it allows
pub full_keeps_more : {Q : Question} {room more : ℕ} {kept : List Record} {e : ℕ} {o : Outcome} → Sized Q.pattern.states Q.pattern.letters
    → room < more → Walk Q room (Full kept e) → Walk Q more o → room < length (kept_of o)
full_keeps_more {Q} {room} {more} {kept} {e} {o} sized larger v w = pick (dec_lt room (length (kept_of o)))
  where
    -- else both are FULL with the same records, which are too few for the larger
    same : length (kept_of o) ≤ room → Full kept e ≡ o
    same h = walk_unique v (room_suffices room (omega arith) h w)

    few : length (kept_of o) ≤ room → ⊥
    few h = let w' : Walk Q more (Full kept e) = rw (same h) w in omega (arith, (counts sized v).by_answer, (counts sized w').by_answer)

    pick : Dec (room < length (kept_of o)) → room < length (kept_of o)
    pick (yes l) = l
    pick (no n) = absurd (few (omega arith))

pub full_exactly : {Q : Question} → Proper Q → (room : ℕ) → ((kept : List Record) × (e : ℕ) × Walk Q room (Full kept e)) ↔ Outgrows Q room
full_exactly {Q} p room = (to, fro)
  where
    sized : Sized Q.pattern.states Q.pattern.letters
    sized = p.valid.sized

    to : (kept : List Record) × (e : ℕ) × Walk Q room (Full kept e) → Outgrows Q room
    to (kept, e, v) =
        let (o, w) = walk_ends Q p (room + 1) in
        record { outcome = o; walk = w; more = full_keeps_more sized (omega arith) v w }

    fro : Outgrows Q room → (kept : List Record) × (e : ℕ) × Walk Q room (Full kept e)
    fro g = (_, _, less_room sized room g.more g.walk)

-- and then so does the walk in every larger room
pub outgrows_every : {Q : Question} {room more : ℕ} {o : Outcome} → Sized Q.pattern.states Q.pattern.letters → room < more
    → Outgrows Q room → Walk Q more o → room < length (kept_of o)
outgrows_every {room = room} sized larger g w = full_keeps_more sized larger (less_room sized room g.more g.walk) w
