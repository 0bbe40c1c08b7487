-- What a reader has read so far, and the fault that it tells.
use mathlib.Core.Path.{◌≡◌, refl, sym, ◌∙◌, subst}
use mathlib.Core.Logic.{◌⊎◌, ⊎_elim}
use mathlib.Core.Bool.{Bool, true, false, true≢false}
use mathlib.Core.List.{List, []}
use Prim.Native.Nat.{ℕ, ◌+◌, ◌≤◌, ◌<◌}
use native.Mathlib.Numerals.{add-one}
use native.Mathlib.Omega.{arith}
use lib.ListN.{length}
use Rattle.expressions.specs.Grammar.{Token, Level}
use Rattle.expressions.specs.Grammar.Leaf.{letter}
use Rattle.expressions.specs.Grammar.Level.{alternation, sequence, factor}
use Rattle.expressions.specs.Grammar.Token.{leaf, bar, open'}
use Rattle.expressions.specs.Texts.{Passes, FirstFault}
use Rattle.expressions.specs.Texts.Passes.{here, space, item}
use Rattle.expressions.specs.Scan.{scan, Here, Faults}
use Rattle.expressions.specs.Scan.Phase.{going}
use Rattle.expressions.specs.Scan.Here.{many_here, deep_here}
use Rattle.expressions.specs.Both.{Whole}
use Rattle.expressions.specs.Pieces.{Linked, Chained, Parted, begins, Looks, Core, Ends, Made, Asks}
use Rattle.expressions.specs.declared.Token.{Token as Seen}
use Rattle.expressions.specs.declared.Token.TheVariants.{Event, One, Zero, Postfix, Bar, Open, Close, End, Unknown}
use Rattle.expressions.specs.declared.Look.{Look}
use Rattle.expressions.specs.declared.Piece.{Piece}
use Rattle.expressions.specs.declared.Tables.{Tables}
use Rattle.expressions.proofs.Passing.{passes_le, past_more}
use Rattle.expressions.proofs.Faults.{first_fault, faultless}
use Rattle.expressions.proofs.Parts.{TokenAt, Ahead, token_ahead, bar_at, core_after, core_single, core_lone, core_further, core_either}
use Rattle.expressions.proofs.Misses as Misses
use Rattle.expressions.proofs.Misses.{fault_on, fault_here, gap_comes, core_comes, open_comes, bar_comes, unclosed, no_factor}

-- ---- how far a part goes

pub made_later : {l : Level} {text : List ℕ} {at d u : ℕ} {old new : Tables} {x : Piece} → Made l text at d u old new x → at ≤ x.next.place
made_later m = passes_le m.core.passes

passes_more : {text : List ℕ} {a b : ℕ} (d u : ℕ) {d' u' : ℕ} {ts : List Token} → Passes text a ts b → scan ts (going true d u) ≡ going false d' u'
    → a < b
passes_more d u {d'} {u'} here e = let z : true ≡ false = going_need e in absurd (mathlib.Core.Bool.true≢false z)
  where
    going_need : going true d u ≡ going false d' u' → true ≡ false
    going_need h = cc
passes_more {text} {a} d u (space l e r) h = omega (arith, past_more text a, passes_le r)
passes_more {text} {a} d u (item l e r) h = omega (arith, past_more text a, passes_le r)

-- a part takes up some of the text
pub made_more : {l : Level} {text : List ℕ} {at d u : ℕ} {old new : Tables} {x : Piece} → Made l text at d u old new x → at < x.next.place
made_more {d = d} {u} m = passes_more d u m.core.passes (m.core.scans true)

-- ---- the loops over sequences and over factors: a part of the level l was read, and its last part is of the level e

pub record Begun (l e : Level) (text : List ℕ) (at d u : ℕ) (old new : Tables) (x : Piece) : Type 0 where
  pub core : Core l text at d u old new x.null x.first x.last x.used x.next.place
  pub looks : Looks text x.next
  pub ends : Ends e x.next.token

pub begun_later : {l e : Level} {text : List ℕ} {at d u : ℕ} {old new : Tables} {x : Piece} → Begun l e text at d u old new x → at ≤ x.next.place
begun_later b = passes_le b.core.passes

pub alt_first : {text : List ℕ} {at d u : ℕ} {old new : Tables} {x : Piece} → Made sequence text at d u old new x
    → Begun alternation sequence text at d u old new x
alt_first m = record { core = core_lone m.core; looks = m.looks; ends = m.ends }

module _ {text : List ℕ} {at d u : ℕ} {old mid : Tables} {x : Piece} (b : Begun alternation sequence text at d u old mid x) where
  -- no bar comes
  pub alt_done : (x.next.token ≡ Bar → ⊥) → Made alternation text at d u old mid x
  alt_done f = record { core = b.core; looks = b.looks; ends = (b.ends.0, b.ends.1, f) }

  module _ (e : x.next.token ≡ Bar) where
    at_bar : TokenAt text x.next.place x.next.past bar
    at_bar = bar_at b.looks e

    pub alt_ahead : Ahead text x.next.place x.next.past
    alt_ahead = token_ahead at_bar

    pub alt_asks : d ≤ 32 → Asks text x.next.past x.used d
    alt_asks s = record { inside = alt_ahead.within; room = b.core.room; shallow = s }

    pub alt_step : {new : Tables} (y r : Piece) → Made sequence text x.next.past d x.used mid new y → Parted x y r
        → Begun alternation sequence text at d u old new r
    alt_step y r m p =
        record {
          core = core_either x y r b.core at_bar m.core p;
          looks = subst (Looks text) (sym p.next) m.looks;
          ends = subst (λ (k : Look). Ends sequence k.token) (sym p.next) m.ends;
        }

    pub alt_fault : {number place : ℕ} → Faults text x.next.past true d x.used number place → Faults text at true d u number place
    alt_fault f = fault_on (core_comes true b.core) (fault_on (bar_comes d x.used at_bar) f)

-- spaces, and then a factor
pub seq_first : {text : List ℕ} {at place d u : ℕ} {old new : Tables} {x : Piece} → Passes text at [] place
    → Made factor text place d u old new x → Begun sequence factor text at d u old new x
seq_first g m = record { core = core_single (core_after m.core g); looks = m.looks; ends = m.ends }

module _ {text : List ℕ} {at d u : ℕ} {old mid : Tables} {x : Piece} (b : Begun sequence factor text at d u old mid x) where
  -- no factor comes
  pub seq_done : begins x.next.token ≡ false → Made sequence text at d u old mid x
  seq_done e = record { core = b.core; looks = b.looks; ends = (b.ends, e) }

  pub seq_step : {joined new : Tables} (y r : Piece) → Made factor text x.next.place d x.used mid joined y → Linked x.last y.first joined new
      → Chained x y r → Begun sequence factor text at d u old new r
  seq_step y r m l p =
      record {
        core = core_further x y r b.core m.core l p;
        looks = subst (Looks text) (sym p.next) m.looks;
        ends = subst (λ (k : Look). Ends factor k.token) (sym p.next) m.ends;
      }

  pub seq_fault : {number place : ℕ} → Faults text x.next.place false d x.used number place → Faults text at true d u number place
  seq_fault f = fault_on (core_comes true b.core) f

-- spaces before the fault of a first factor
pub head_fault : {text : List ℕ} {at place : ℕ} (d u : ℕ) → Passes text at [] place → {number q : ℕ} → Faults text place true d u number q
    → Faults text at true d u number q
head_fault d u p f = fault_on (gap_comes true d u p) f

-- ---- a factor

pub not_begins : (t : Seen) → ((a : ℕ) → t ≡ Event a → ⊥) → (t ≡ One → ⊥) → (t ≡ Zero → ⊥) → (t ≡ Open → ⊥) → begins t ≡ false
not_begins (Event a) e f g h = absurd (e a refl)
not_begins One e f g h = absurd (f refl)
not_begins Zero e f g h = absurd (g refl)
not_begins (Postfix m) e f g h = refl
not_begins Bar e f g h = refl
not_begins Open e f g h = absurd (h refl)
not_begins Close e f g h = refl
not_begins End e f g h = refl
not_begins Unknown e f g h = refl

-- what begins no factor is a fault where one must come
pub none_fault : {text : List ℕ} {k : Look} (d u : ℕ) → Looks text k → begins k.token ≡ false → (n : Bool) → (n ≡ true) ⊎ (begins k.token ≡ true)
    → Faults text k.place n d u 30 k.place
none_fault {text} {k} d u l e n h =
    ⊎_elim (λ j. subst (λ (z : Bool). Faults text k.place z d u 30 k.place) (sym j) (fault_here (no_factor d u l e)))
    (λ b. absurd (true≢false (sym b ∙ e))) h

pub many_fault : {text : List ℕ} {place past a : ℕ} (d u : ℕ) → TokenAt text place past (leaf (letter a)) → 64 ≤ u → (n : Bool)
    → Faults text place n d u 31 place
many_fault d u t h n = fault_here (many_here t.inside t.item h)

module _ {text : List ℕ} {place past : ℕ} (d u : ℕ) (t : TokenAt text place past open') where
  pub deep_fault : 32 ≤ d → (n : Bool) → Faults text place n d u 32 place
  deep_fault h n = fault_here (deep_here t.inside t.item h)

  pub inner_fault : d < 32 → {number q : ℕ} → Faults text past true (d + 1) u number q → (n : Bool) → Faults text place n d u number q
  inner_fault l f n = fault_on (open_comes n d u t l) f

  pub close_fault : d < 32 → {old new : Tables} {x : Piece} → Made alternation text past (d + 1) u old new x → (x.next.token ≡ Close → ⊥)
      → (n : Bool) → Faults text place n d u 30 x.next.place
  close_fault l {x = x} m f =
      let end : Here text x.next.place false (d + 1) x.used 30 =
      subst (λ (z : ℕ). Here text x.next.place false z x.used 30) (sym (add-one d)) (unclosed d x.used m.looks m.ends f)
      in
      inner_fault l (fault_on (core_comes true m.core) (fault_here end))

-- ---- a whole text

pub unended : {text : List ℕ} {u : ℕ} {old new : Tables} {x : Piece} → Made alternation text 0 0 u old new x → (x.next.token ≡ End → ⊥)
    → FirstFault text u 30 x.next.place
unended {text} {u} {x = x} m f =
    first_fault text u 30 x.next.place (fault_on (core_comes true m.core) (fault_here (Misses.unended x.used m.looks m.ends f)))

pub whole : {text : List ℕ} {u : ℕ} {old new : Tables} {x : Piece} → Made alternation text 0 0 u old new x → x.next.token ≡ End
    → Whole text u old new x
whole {text} {u} {x = x} m e =
    let k = m.core in
    let p : Passes text 0 k.tokens (length text) = subst (λ (z : ℕ). Passes text 0 k.tokens z) (m.looks.end e) k.passes in
    record {
      tree = k.tree;
      means = record { tokens = k.tokens; passes = p; right = k.reads };
      faultless = faultless text u x.used k.tokens (record { passes = p; scans = k.scans true });
      states = k.states;
      room = k.room;
      null_is = k.null_is;
      first_is = k.first_is;
      last_is = k.last_is;
      follow_is = k.follow_is;
      named_is = k.named_is;
    }
