-- What the readers of parts of a text promise. Private functions alone cite this file: no promise to a host rests on it.
--   item_seen t   what the token t of the code stands for; mark_seen: a mark of the code; Coded: an item and the token of it
--   At, Looks, Peeked
--                 an item at a place, what stands next, and the same after spaces; Skipped, RunEnd: after spaces, and after capitals and digits
--   Core, Made    a part that was read, from one place to another; what stands after it as well
--   Linked, Chained, Parted
--                 tables and parts put together, one after the other or one or the other
--   loops, takes_empty, Marked
--                 what a mark does, and what the marks after a factor do
--   Asks, Told, ToldFactor
--                 what the readers ask and what they tell
use Rattle.std.specs.Prelude.{◌≡◌, ◌⊎◌, Bool, true, false, ◌&&◌, ◌||◌, List, [], ℕ, ◌+◌, ◌≤◌, ◌<◌, length, get_or, drop, Result, Ok, Err}
use Rattle.std.specs.Int.Bits.{bit_or}
use Rattle.verdict.specs.declared.Fault.{Fault}
use Rattle.verdict.specs.Refusals.{number}
use Rattle.expressions.specs.Expressions.{Expr}
use Rattle.expressions.specs.Positions.{size, nullable, when, first, last, linked, follow, named}
use Rattle.expressions.specs.Grammar.{Mark, Token, Level, Reads}
use Rattle.expressions.specs.Grammar.Leaf.{letter, unit, void}
use Rattle.expressions.specs.Grammar.Mark.{many, some, maybe}
use Rattle.expressions.specs.Grammar.Level.{alternation, sequence, factor}
use Rattle.expressions.specs.Grammar.Token.{leaf, mark, bar, open', close'}
use Rattle.expressions.specs.Texts.{Item, item_at, past_at, Passes, run_length}
use Rattle.expressions.specs.Texts.Item.{gap, token, bad}
use Rattle.expressions.specs.Scan.{scan, Faults}
use Rattle.expressions.specs.Scan.Phase.{going}
use Rattle.expressions.specs.declared.Mark.{Mark as SeenMark}
use Rattle.expressions.specs.declared.Mark.TheVariants.{Star, Plus, Maybe}
use Rattle.expressions.specs.declared.Token.{Token as Seen}
use Rattle.expressions.specs.declared.Token.TheVariants.{Event, One, Zero, Postfix, Bar, Open, Close, End, Unknown}
use Rattle.expressions.specs.declared.Look.{Look}
use Rattle.expressions.specs.declared.Piece.{Piece}
use Rattle.expressions.specs.declared.Tables.{Tables}

-- ---- tables and parts put together

-- what link leaves: each entry joined where the state is in the set
pub record Linked (lasts firsts : ℕ) (before after : Tables) : Type 0 where
  pub entry : (s : ℕ) → s < 64 → get_or after.follow s 0 ≡ bit_or (get_or before.follow s 0) (linked lasts s firsts)
  pub names : after.named ≡ before.named

pub record Chained (x y r : Piece) : Type 0 where
  pub null : r.null ≡ (x.null && y.null)
  pub first : r.first ≡ bit_or x.first (when x.null y.first)
  pub last : r.last ≡ bit_or (when y.null x.last) y.last
  pub used : r.used ≡ y.used
  pub next : r.next ≡ y.next

pub record Parted (x y r : Piece) : Type 0 where
  pub null : r.null ≡ (x.null || y.null)
  pub first : r.first ≡ bit_or x.first y.first
  pub last : r.last ≡ bit_or x.last y.last
  pub used : r.used ≡ y.used
  pub next : r.next ≡ y.next

-- ---- what stands next

abbrev pub mark_seen : SeenMark → Mark
mark_seen Star = many
mark_seen Plus = some
mark_seen Maybe = maybe

abbrev pub item_seen : Seen → Item
item_seen (Event a) = token (leaf (letter a))
item_seen One = token (leaf unit)
item_seen Zero = token (leaf void)
item_seen (Postfix m) = token (mark (mark_seen m))
item_seen Bar = token bar
item_seen Open = token open'
item_seen Close = token close'
item_seen End = gap
item_seen Unknown = bad

pub record Coded (i : Item) (t : Seen) : Type 0 where
  pub item : i ≡ item_seen t
  pub not_end : t ≡ End → ⊥

-- an item at a place, and the place after it
pub record At (text : List ℕ) (place past : ℕ) (i : Item) : Type 0 where
  pub inside : place < length text
  pub item : item_at text place ≡ i
  pub beyond : past ≡ past_at text place

pub record Looks (text : List ℕ) (k : Look) : Type 0 where
  pub inside : k.place ≤ length text
  pub end : k.token ≡ End → k.place ≡ length text
  pub stands : (k.token ≡ End → ⊥) → At text k.place k.past (item_seen k.token)

pub record Peeked (text : List ℕ) (at : ℕ) (k : Look) : Type 0 where
  pub gaps : Passes text at [] k.place
  pub looks : Looks text k

pub record Skipped (text : List ℕ) (at r : ℕ) : Type 0 where
  pub gaps : Passes text at [] r
  pub inside : r ≤ length text
  pub stops : r < length text → get_or text r 0 ≡ 32 → ⊥

pub record RunEnd (text : List ℕ) (at r : ℕ) : Type 0 where
  pub is : r ≡ at + run_length (drop at text)
  pub inside : r ≤ length text

-- it begins a factor: a name or an open parenthesis
abbrev pub begins : Seen → Bool
begins (Event a) = true
begins One = true
begins Zero = true
begins (Postfix m) = false
begins Bar = false
begins Open = true
begins Close = false
begins End = false
begins Unknown = false

-- what does not stand after a part: a mark after a factor, nor what begins one after a sequence, nor a bar after an alternation
abbrev pub NoMark : Seen → Type 0
NoMark t = (m : SeenMark) → t ≡ Postfix m → ⊥

abbrev pub Ends : Level → Seen → Type 0
Ends factor t = NoMark t
Ends sequence t = NoMark t × (begins t ≡ false)
Ends alternation t = NoMark t × (begins t ≡ false) × (t ≡ Bar → ⊥)

-- ---- a part of the text that was read, from one place to another, at a depth, from state u on

pub record Core (l : Level) (text : List ℕ) (at d u : ℕ) (old new : Tables) (null : Bool) (firsts lasts used to : ℕ) : Type 0 where
  pub tree : Expr
  pub tokens : List Token
  pub passes : Passes text at tokens to
  pub reads : Reads l tokens tree
  pub scans : (n : Bool) → scan tokens (going n d u) ≡ going false d used
  pub room : used ≤ 64
  pub states : used ≡ u + size tree
  pub null_is : null ≡ nullable tree
  pub first_is : firsts ≡ first tree u
  pub last_is : lasts ≡ last tree u
  pub follow_is : (s : ℕ) → s < 64 → get_or new.follow s 0 ≡ bit_or (get_or old.follow s 0) (follow tree u s)
  pub named_is : (a : ℕ) → a < 32 → get_or new.named a 0 ≡ bit_or (get_or old.named a 0) (named tree u a)

pub record Made (l : Level) (text : List ℕ) (at d u : ℕ) (old new : Tables) (x : Piece) : Type 0 where
  pub core : Core l text at d u old new x.null x.first x.last x.used x.next.place
  pub looks : Looks text x.next
  pub ends : Ends l x.next.token

-- ---- marks

-- `*` and `+` lead from the last positions back to the first
abbrev pub loops : SeenMark → Bool
loops Star = true
loops Plus = true
loops Maybe = false

-- `*` and `?` take the empty sequence
abbrev pub takes_empty : SeenMark → Bool
takes_empty Star = true
takes_empty Plus = false
takes_empty Maybe = true

-- the marks after a factor
pub record Marked (text : List ℕ) (x : Piece) (mid new : Tables) (r : Piece) : Type 0 where
  pub onward : (at d u : ℕ) (old : Tables) → Core factor text at d u old mid x.null x.first x.last x.used x.next.place → Made factor text at d u old new r

-- ---- the readers

-- what the readers ask
pub record Asks (text : List ℕ) (at used depth : ℕ) : Type 0 where
  pub inside : at ≤ length text
  pub room : used ≤ 64
  pub shallow : depth ≤ 32

-- what a reader tells: a part that was read, or a fault that stands where a factor must come
abbrev pub Told : Level → List ℕ → ℕ → ℕ → ℕ → Tables → Tables → Result Piece Fault → Type 0
Told l text at d u old new (Ok x) = Made l text at d u old new x
Told l text at d u old new (Err f) = Faults text at true d u (number f.why) f.place

-- the same of a factor: where it begins one, the fault stands also where a factor may come
abbrev pub ToldFactor : List ℕ → Look → ℕ → ℕ → Tables → Tables → Result Piece Fault → Type 0
ToldFactor text k d u old new (Ok x) = Made factor text k.place d u old new x
ToldFactor text k d u old new (Err f) = (n : Bool) → (n ≡ true) ⊎ (begins k.token ≡ true) → Faults text k.place n d u (number f.why) f.place
