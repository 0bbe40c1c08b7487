-- `walk_ends`: every valid question has an outcome in every room. Assumes nothing.
use mathlib.Core.Bool.{Bool-discrete}
use Prim.Native.Nat.{ℕ, zero, suc, ◌+◌, ◌*◌, ◌≤◌, ◌<◌}
use native.Mathlib.Nat.{mul-le-mul_left}
use native.Mathlib.Decide.{dec_lt}
use native.Mathlib.Omega.{arith}
use lib.ListN.{length}
use Rattle.congruence.proofs.Computed.{congruent_dec}
use Rattle.walk.specs.Walk.{Question, lefts_of, rights_of, candidates, Position, begin, upcoming, Remains, Implied, Agrees, Moves, Outcome, Ends, Moved, Walk}
use Rattle.walk.specs.Walk.Moves.{skipped}
use Rattle.walk.specs.Walk.Ends.{same, different, full}
use Rattle.walk.specs.Walk.Moved.{stay, go}
use Rattle.walk.specs.Meaning.{Proper}
use Rattle.walk.proofs.Sound.{Sound, sound_begin, sound_move, fits_moved}
use Rattle.walk.proofs.Leading.{has_word}

module _ (Q : Question) (p : Proper Q) where
  pos : 0 < Q.pattern.letters
  pos = p.valid.sized.some_letter

  -- one candidate is dealt with: the walk goes on, or it ends
  data Next (room : ℕ) (at : Position) : Type 0 where
    moves : {to : Position} → Moves Q room at to → at.examined < to.examined → Next room at
    finishes : {o : Outcome} → Ends Q room at o → Next room at

  step : (room : ℕ) (at : Position) → Sound Q at → Next room at
  step room at s = left (dec_lt at.examined (candidates Q at.kept))
    where
      room_for : Remains Q at → (Implied at.kept (upcoming Q at) → ⊥) → Agrees Q (upcoming Q at) → Dec (length at.kept < room) → Next room at
      room_for l f a (yes h) = moves (Moves.kept l f a h) (omega arith)
      room_for l f a (no h) = finishes (full l f a (omega arith))

      agree : Remains Q at → (Implied at.kept (upcoming Q at) → ⊥) → Dec (Agrees Q (upcoming Q at)) → Next room at
      agree l f (yes a) = room_for l f a (dec_lt (length at.kept) room)
      agree l f (no a) = let (w, h) = has_word Q pos at.kept s.reached at.examined l in finishes (different l f a h)

      known : Remains Q at → Dec (Implied at.kept (upcoming Q at)) → Next room at
      known l (yes c) = moves (skipped l c) (omega arith)
      known l (no f) = agree l f (Bool-discrete _ _)

      left : Dec (Remains Q at) → Next room at
      left (yes l) = known l (congruent_dec (lefts_of at.kept) (rights_of at.kept) _ _)
      left (no n) = finishes (same n)

  record Goes (room : ℕ) (at : Position) : Type 0 where
    outcome : Outcome
    last : Position
    moved : Moved Q room at last
    ends : Ends Q room last outcome

  goes : (f room : ℕ) (at : Position) → Sound Q at → length at.kept ≤ room
      → 1 + Q.pattern.letters * room < at.examined + f → Goes room at
  goes zero room at s h l = absurd (omega (arith, s.counted, mul-le-mul_left Q.pattern.letters h))
  goes (suc f) room at s h l =
      pick (step room at s) (λ to m x. goes f room to (sound_move Q pos m s) (fits_moved (go m stay) h) (omega arith))
    where
      pick : Next room at → ((to : Position) → Moves Q room at to → at.examined < to.examined → Goes room to) → Goes room at
      pick (moves {to} m x) rest =
          let g = rest to m x in
          record { outcome = g.outcome; last = g.last; moved = go m g.moved; ends = g.ends }
      pick (finishes {o} e) rest = record { outcome = o; last = at; moved = stay; ends = e }

  pub walk_ends : (room : ℕ) → (o : Outcome) × Walk Q room o
  walk_ends room =
      let g = goes (2 + Q.pattern.letters * room) room begin (sound_begin Q pos) (omega arith) (omega arith) in
      (g.outcome, record { last = g.last; moved = g.moved; ends = g.ends })
