-- The marks after a factor: what was read, with the marks so far.
use mathlib.Core.Path.{◌≡◌, sym}
use mathlib.Core.Bool.{Bool, true, false, ◌||◌, or-true, or-false, true≢false}
use mathlib.Core.List.{List}
use Prim.Native.Nat.{ℕ, ◌≤◌}
use Rattle.expressions.specs.Grammar.Level.{factor}
use Rattle.expressions.specs.Grammar.Token.{mark}
use Rattle.expressions.specs.Pieces.{mark_seen, Looks, Peeked, Core, Linked, loops, takes_empty, NoMark, Marked}
use Rattle.expressions.specs.declared.Mark.{Mark as SeenMark}
use Rattle.expressions.specs.declared.Mark.TheVariants.{Star, Plus, Maybe}
use Rattle.expressions.specs.declared.Token.TheVariants.{Postfix}
use Rattle.expressions.specs.declared.Look.{Look}
use Rattle.expressions.specs.declared.Piece.{Piece}
use Rattle.expressions.specs.declared.Tables.{Tables}
use Rattle.expressions.proofs.Passing.{passes_le}
use Rattle.expressions.proofs.Parts.{TokenAt, Ahead, token_ahead, mark_at, core_gap, core_star, core_plus, core_opt}

-- the factor x, read as far as r, with the tables as they are now
pub record Marking (text : List ℕ) (x : Piece) (mid now : Tables) (r : Piece) : Type 0 where
  pub looks : Looks text r.next
  pub carry : (at d u : ℕ) (old : Tables) → Core factor text at d u old mid x.null x.first x.last x.used x.next.place
      → Core factor text at d u old now r.null r.first r.last r.used r.next.place

pub marks_first : (text : List ℕ) (x : Piece) (mid : Tables) → Looks text x.next → Marking text x mid mid x
marks_first text x mid k = record { looks = k; carry = λ at d u old c. c }

-- one mark more: what it does to the tables and to the part
pub data Goes (m : SeenMark) (firsts lasts : ℕ) (now after : Tables) : Type 0 where
  back : loops m ≡ true → Linked lasts firsts now after → Goes m firsts lasts now after
  on : loops m ≡ false → after ≡ now → Goes m firsts lasts now after

module _ {text : List ℕ} {at d u : ℕ} {old now after : Tables} {null : Bool} {p q used to past : ℕ}
    (c : Core factor text at d u old now null p q used to) where
  marked_by : (m : SeenMark) → TokenAt text to past (mark (mark_seen m)) → Goes m p q now after
      → Core factor text at d u old after (null || takes_empty m) p q used past
  marked_by Star t (back e l) = rw or-true (core_star c t l)
  marked_by Star t (on e s) = absurd (true≢false e)
  marked_by Plus t (back e l) = rw or-false (core_plus c t l)
  marked_by Plus t (on e s) = absurd (true≢false e)
  marked_by Maybe t (back e l) = absurd (true≢false (sym e))
  marked_by Maybe t (on e s) = rw (or-true, s) (core_opt c t)

pub marks_step : (text : List ℕ) (x : Piece) (mid now after : Tables) (r : Piece) (m : SeenMark) (k : Look) → Marking text x mid now r
    → r.next.token ≡ Postfix m → Goes m r.first r.last now after → Peeked text r.next.past k
    → Marking text x mid after (record r { null = r.null || takes_empty m; next = k })
marks_step text x mid now after r m k i e g p =
    record { looks = p.looks; carry = λ at d u old c. core_gap (marked_by (i.carry at d u old c) m (mark_at i.looks e) g) p.gaps }

pub marks_done : {text : List ℕ} {x : Piece} {mid now : Tables} {r : Piece} → Marking text x mid now r → NoMark r.next.token → Marked text x mid now r
marks_done i f = record { onward = λ at d u old c. record { core = i.carry at d u old c; looks = i.looks; ends = f } }

pub mark_ahead : {text : List ℕ} {k : Look} {m : SeenMark} → Looks text k → k.token ≡ Postfix m → Ahead text k.place k.past
mark_ahead k e = token_ahead (mark_at k e)

pub peek_le : {text : List ℕ} {at : ℕ} {k : Look} → Peeked text at k → at ≤ k.place
peek_le g = passes_le g.gaps
