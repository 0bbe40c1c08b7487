-- Parts of a text: a name, marks, parentheses, one part after another, and one or the other.
use mathlib.Core.Path.{◌≡◌, refl, sym, ap, ap₂, ◌∙◌, subst}
use mathlib.Core.Bool.{Bool, true, false, cond, ◌&&◌, ◌||◌}
use mathlib.Core.List.{List, [], ◌∷◌, ◌++◌, append-nil}
use Prim.Native.Nat.{ℕ, suc, ◌+◌, ◌^◌, ◌≤◌, ◌<◌}
use native.Mathlib.Numerals.{add-one}
use native.Mathlib.Decide.{ℕ_discrete}
use native.Mathlib.Omega.{arith}
use lib.ListN.{length, get_or, set}
use lib.Seq.{get_or-set_same, get_or-set_other}
use lib.Bits.{bit_or, or_zero_r}
use borrow.Author.Tests.{lt-leb, eq-eqb, ne_eqb}
use Rattle.expressions.specs.Expressions.Expr.{event, one, nought, alt, seq, star, plus, opt}
use Rattle.expressions.specs.Positions.{size, nullable, when, first, last, linked, follow, named}
use Rattle.expressions.specs.Grammar.{Mark, Token, Level, Reads}
use Rattle.expressions.specs.Grammar.Leaf.{letter, unit, void}
use Rattle.expressions.specs.Grammar.Mark.{many, some, maybe}
use Rattle.expressions.specs.Grammar.Level.{alternation, sequence, factor}
use Rattle.expressions.specs.Grammar.Reads.{lone, either, single, further, name, marked, group}
use Rattle.expressions.specs.Grammar.Token.{leaf, mark, bar, open', close'}
use Rattle.expressions.specs.Texts.{past_at, Passes}
use Rattle.expressions.specs.Texts.Item.{token, bad}
use Rattle.expressions.specs.Texts.Passes.{here, item}
use Rattle.expressions.specs.Scan.{Phase, turn, scan}
use Rattle.expressions.specs.Scan.Phase.{going, halted}
use Rattle.expressions.specs.Pieces.{mark_seen, item_seen, Linked, Chained, Parted, At, Looks, Core, Made}
use Rattle.expressions.specs.declared.Mark.{Mark as SeenMark}
use Rattle.expressions.specs.declared.Token.{Token as Seen}
use Rattle.expressions.specs.declared.Token.TheVariants.{Event, One, Zero, Postfix, Bar, Open, Close, End, Unknown}
use Rattle.expressions.specs.declared.Look.{Look}
use Rattle.expressions.specs.declared.Piece.{Piece}
use Rattle.expressions.specs.declared.Tables.{Tables}
use Rattle.sets.proofs.Bits.{union_assoc}
use Rattle.expressions.proofs.Faults.{scan_append}
use Rattle.expressions.proofs.Passing.{passes_on, past_le, past_more}

-- ---- a token at a place

abbrev pub TokenAt : List ℕ → ℕ → ℕ → Token → Type 0
TokenAt text place past t = At text place past (token t)

pub token_passes : {text : List ℕ} {place past : ℕ} {t : Token} → TokenAt text place past t → Passes text place (t ∷ []) past
token_passes {text} {place} {past} {t} k = item k.inside k.item (subst (λ (z : ℕ). Passes text (past_at text place) [] z) (sym k.beyond) here)

-- what comes after it is further on, within the text
pub record Ahead (text : List ℕ) (place past : ℕ) : Type 0 where
  pub inside : place < length text
  pub on : place < past
  pub within : past ≤ length text

pub token_ahead : {text : List ℕ} {place past : ℕ} {t : Token} → TokenAt text place past t → Ahead text place past
token_ahead {text} {place} k =
    record { inside = k.inside; on = omega (arith, past_more text place, k.beyond); within = omega (arith, past_le text place k.inside, k.beyond) }

-- what stands next, where it is known
module _ {text : List ℕ} {k : Look} (l : Looks text k) where
  look_at : (t : Seen) → k.token ≡ t → (t ≡ End → ⊥) → At text k.place k.past (item_seen t)
  look_at t e f = subst (λ (z : Seen). At text k.place k.past (item_seen z)) e (l.stands (λ j. f (sym e ∙ j)))

  pub event_at : {a : ℕ} → k.token ≡ Event a → TokenAt text k.place k.past (leaf (letter a))
  event_at {a} e = look_at (Event a) e (λ j. cc)

  pub one_at : k.token ≡ One → TokenAt text k.place k.past (leaf unit)
  one_at e = look_at One e (λ j. cc)

  pub zero_at : k.token ≡ Zero → TokenAt text k.place k.past (leaf void)
  zero_at e = look_at Zero e (λ j. cc)

  pub mark_at : {m : SeenMark} → k.token ≡ Postfix m → TokenAt text k.place k.past (mark (mark_seen m))
  mark_at {m} e = look_at (Postfix m) e (λ j. cc)

  pub bar_at : k.token ≡ Bar → TokenAt text k.place k.past bar
  bar_at e = look_at Bar e (λ j. cc)

  pub open_at : k.token ≡ Open → TokenAt text k.place k.past open'
  open_at e = look_at Open e (λ j. cc)

  pub close_at : k.token ≡ Close → TokenAt text k.place k.past close'
  close_at e = look_at Close e (λ j. cc)

  pub unknown_at : k.token ≡ Unknown → At text k.place k.past bad
  unknown_at e = look_at Unknown e (λ j. cc)

-- ---- one name

module _ {text : List ℕ} {place past d u : ℕ} {t : Tables} where
  -- its position o as the machine shifts it
  pub core_letter : {a o : ℕ} → TokenAt text place past (leaf (letter a)) → a < 32 → u < 64 → length t.named ≡ 32 → o ≡ 2 ^ u
      → Core factor text place d u t (record t { named = set t.named a (bit_or (get_or t.named a 0) o) }) false o o (u + 1) past
  unfolding size nullable first last follow
  core_letter {a} {o} k b l h e =
      record {
        tree = event a;
        tokens = leaf (letter a) ∷ [];
        passes = token_passes k;
        reads = name (letter a);
        scans = λ n. rw (lt-leb 64 u l, add-one) refl;
        room = omega arith;
        states = refl;
        null_is = refl;
        first_is = e;
        last_is = e;
        follow_is = λ s m. sym (or_zero_r (get_or t.follow s 0));
        named_is = λ x m. names x (ℕ_discrete x a);
      }
    where
      names : (x : ℕ) → Dec (x ≡ a) → get_or (set t.named a (bit_or (get_or t.named a 0) o)) x 0 ≡ bit_or (get_or t.named x 0) (named (event a) u x)
      names x (yes j) = unfold named when in (rw (← e, j, eq-eqb a a refl) (get_or-set_same t.named a (bit_or (get_or t.named a 0) o) 0 (omega arith)))
      names x (no j) =
          unfold named when in
          (rw (ne_eqb x a j) (get_or-set_other t.named a x (bit_or (get_or t.named a 0) o) 0 j ∙ sym (or_zero_r (get_or t.named x 0))))

  pub core_unit : TokenAt text place past (leaf unit) → u ≤ 64 → Core factor text place d u t t true 0 0 u past
  unfolding size nullable first last follow named
  core_unit k l =
      record {
        tree = one;
        tokens = leaf unit ∷ [];
        passes = token_passes k;
        reads = name unit;
        scans = λ n. refl;
        room = l;
        states = omega arith;
        null_is = refl;
        first_is = refl;
        last_is = refl;
        follow_is = λ s b. sym (or_zero_r (get_or t.follow s 0));
        named_is = λ a b. sym (or_zero_r (get_or t.named a 0));
      }

  pub core_void : TokenAt text place past (leaf void) → u ≤ 64 → Core factor text place d u t t false 0 0 u past
  unfolding size nullable first last follow named
  core_void k l =
      record {
        tree = nought;
        tokens = leaf void ∷ [];
        passes = token_passes k;
        reads = name void;
        scans = λ n. refl;
        room = l;
        states = omega arith;
        null_is = refl;
        first_is = refl;
        last_is = refl;
        follow_is = λ s b. sym (or_zero_r (get_or t.follow s 0));
        named_is = λ a b. sym (or_zero_r (get_or t.named a 0));
      }

-- ---- spaces before and after a part, and the same part at another level

module _ {l : Level} {text : List ℕ} {at d u : ℕ} {old new : Tables} {null : Bool} {p q used to : ℕ}
    (k : Core l text at d u old new null p q used to) where
  -- between two other places, at another level
  moved : {l' : Level} {from on : ℕ} → Passes text from k.tokens on → Reads l' k.tokens k.tree → Core l' text from d u old new null p q used on
  moved g r =
      record {
        tree = k.tree;
        tokens = k.tokens;
        passes = g;
        reads = r;
        scans = k.scans;
        room = k.room;
        states = k.states;
        null_is = k.null_is;
        first_is = k.first_is;
        last_is = k.last_is;
        follow_is = k.follow_is;
        named_is = k.named_is;
      }

  pub core_gap : {on : ℕ} → Passes text to [] on → Core l text at d u old new null p q used on
  core_gap {on} g = moved (subst (λ (z : List Token). Passes text at z on) (append-nil k.tokens) (passes_on k.passes g)) k.reads

  pub core_after : {from : ℕ} → Passes text from [] at → Core l text from d u old new null p q used to
  core_after g = moved (passes_on g k.passes) k.reads

pub core_single : {text : List ℕ} {at d u : ℕ} {old new : Tables} {null : Bool} {p q used to : ℕ}
    → Core factor text at d u old new null p q used to → Core sequence text at d u old new null p q used to
core_single k = moved k k.passes (single k.reads)

pub core_lone : {text : List ℕ} {at d u : ℕ} {old new : Tables} {null : Bool} {p q used to : ℕ}
    → Core sequence text at d u old new null p q used to → Core alternation text at d u old new null p q used to
core_lone k = moved k k.passes (lone k.reads)

-- ---- a mark

module _ {text : List ℕ} {at d u : ℕ} {old new : Tables} {null : Bool} {p q used to : ℕ}
    (k : Core factor text at d u old new null p q used to) where
  mark_scans : (m : Mark) (n : Bool) → scan (k.tokens ++ (mark m ∷ [])) (going n d u) ≡ going false d used
  mark_scans m n = scan_append k.tokens (mark m ∷ []) (going n d u) ∙ ap (λ (z : Phase). turn (mark m) z) (k.scans n)

  -- star and plus lead from the last positions back to the first
  looped : {after : Tables} → Linked q p new after → (s : ℕ) → s < 64
      → get_or after.follow s 0 ≡ bit_or (get_or old.follow s 0) (bit_or (follow k.tree u s) (linked (last k.tree u) s (first k.tree u)))
  looped l s b =
      l.entry s b ∙ ap₂ bit_or (k.follow_is s b) (ap₂ (λ (x y : ℕ). linked x s y) k.last_is k.first_is)
      ∙ union_assoc (get_or old.follow s 0) (follow k.tree u s) (linked (last k.tree u) s (first k.tree u))

  kept_names : {after : Tables} → Linked q p new after → (a : ℕ) → a < 32 → get_or after.named a 0 ≡ bit_or (get_or old.named a 0) (named k.tree u a)
  kept_names l a b = ap (λ (z : List ℕ). get_or z a 0) l.names ∙ k.named_is a b

  pub core_star : {after : Tables} {past : ℕ} → TokenAt text to past (mark many) → Linked q p new after
      → Core factor text at d u old after true p q used past
  unfolding size nullable first last follow named
  core_star t l =
      record {
        tree = star k.tree;
        tokens = k.tokens ++ (mark many ∷ []);
        passes = passes_on k.passes (token_passes t);
        reads = marked k.reads many;
        scans = mark_scans many;
        room = k.room;
        states = k.states;
        null_is = refl;
        first_is = k.first_is;
        last_is = k.last_is;
        follow_is = looped l;
        named_is = kept_names l;
      }

  pub core_plus : {after : Tables} {past : ℕ} → TokenAt text to past (mark some) → Linked q p new after
      → Core factor text at d u old after null p q used past
  unfolding size nullable first last follow named
  core_plus t l =
      record {
        tree = plus k.tree;
        tokens = k.tokens ++ (mark some ∷ []);
        passes = passes_on k.passes (token_passes t);
        reads = marked k.reads some;
        scans = mark_scans some;
        room = k.room;
        states = k.states;
        null_is = k.null_is;
        first_is = k.first_is;
        last_is = k.last_is;
        follow_is = looped l;
        named_is = kept_names l;
      }

  pub core_opt : {past : ℕ} → TokenAt text to past (mark maybe) → Core factor text at d u old new true p q used past
  unfolding size nullable first last follow named
  core_opt t =
      record {
        tree = opt k.tree;
        tokens = k.tokens ++ (mark maybe ∷ []);
        passes = passes_on k.passes (token_passes t);
        reads = marked k.reads maybe;
        scans = mark_scans maybe;
        room = k.room;
        states = k.states;
        null_is = refl;
        first_is = k.first_is;
        last_is = k.last_is;
        follow_is = k.follow_is;
        named_is = k.named_is;
      }

-- ---- parentheses

open_scans : (ts : List Token) (n : Bool) (d u used : ℕ) → d < 32 → scan ts (going true (suc d) u) ≡ going false (suc d) used
    → scan (open' ∷ (ts ++ (close' ∷ []))) (going n d u) ≡ going false d used
open_scans ts n d u used l e =
    ap (λ (t : Bool). scan (ts ++ (close' ∷ [])) (cond t halted (going true (suc d) u))) (lt-leb 32 d l)
    ∙ (scan_append ts (close' ∷ []) (going true (suc d) u) ∙ ap (λ (z : Phase). turn close' z) e)

pub core_group : {text : List ℕ} {place past d u : ℕ} {old new : Tables} {x : Piece} → TokenAt text place past open' → d < 32
    → Made alternation text past (d + 1) u old new x → TokenAt text x.next.place x.next.past close'
    → Core factor text place d u old new x.null x.first x.last x.used x.next.past
core_group {text} {place} {past} {d} {u} {x = x} t l m c =
    let k = m.core in
    record {
      tree = k.tree;
      tokens = open' ∷ (k.tokens ++ (close' ∷ []));
      passes = passes_on (token_passes t) (passes_on k.passes (token_passes c));
      reads = group k.reads;
      scans =
          λ n. open_scans k.tokens n d u x.used l
          (subst (λ (z : ℕ). scan k.tokens (going true z u) ≡ going false z x.used) (add-one d) (k.scans true));
      room = k.room;
      states = k.states;
      null_is = k.null_is;
      first_is = k.first_is;
      last_is = k.last_is;
      follow_is = k.follow_is;
      named_is = k.named_is;
    }

-- ---- one part after another

-- the states of the second part come after those of the first
module _ {text : List ℕ} {at d u next : ℕ} {old mid new : Tables} (x y : Piece) where
  shift_names : {l l' : Level} (k : Core l text at d u old mid x.null x.first x.last x.used x.next.place)
      (m : Core l' text next d x.used mid new y.null y.first y.last y.used y.next.place)
      → (a : ℕ) → a < 32 → get_or new.named a 0 ≡ bit_or (get_or old.named a 0) (bit_or (named k.tree u a) (named m.tree (u + size k.tree) a))
  shift_names k m a b =
      m.named_is a b ∙ ap₂ bit_or (k.named_is a b) (ap (λ (z : ℕ). named m.tree z a) k.states)
      ∙ union_assoc (get_or old.named a 0) (named k.tree u a) (named m.tree (u + size k.tree) a)

  shift_follow : {l l' : Level} (k : Core l text at d u old mid x.null x.first x.last x.used x.next.place)
      (m : Core l' text next d x.used mid new y.null y.first y.last y.used y.next.place)
      → (s : ℕ) → s < 64 → get_or new.follow s 0 ≡ bit_or (get_or old.follow s 0) (bit_or (follow k.tree u s) (follow m.tree (u + size k.tree) s))
  shift_follow k m s b =
      m.follow_is s b ∙ ap₂ bit_or (k.follow_is s b) (ap (λ (z : ℕ). follow m.tree z s) k.states)
      ∙ union_assoc (get_or old.follow s 0) (follow k.tree u s) (follow m.tree (u + size k.tree) s)

pub core_further : {text : List ℕ} {at d u : ℕ} {old mid joined new : Tables} (x y r : Piece)
    → Core sequence text at d u old mid x.null x.first x.last x.used x.next.place
    → Core factor text x.next.place d x.used mid joined y.null y.first y.last y.used y.next.place → Linked x.last y.first joined new → Chained x y r
    → Core sequence text at d u old new r.null r.first r.last r.used r.next.place
unfolding size nullable first last follow named
core_further {text} {at} {d} {u} {old} {mid} {joined} {new} x y r k m l c =
    record {
      tree = seq k.tree m.tree;
      tokens = k.tokens ++ m.tokens;
      passes = subst (λ (z : ℕ). Passes text at (k.tokens ++ m.tokens) z) (sym (ap (λ (z : Look). z.place) c.next)) (passes_on k.passes m.passes);
      reads = further k.reads m.reads;
      scans = λ n. scan_append k.tokens m.tokens (going n d u) ∙ ap (scan m.tokens) (k.scans n) ∙ m.scans false ∙ ap (going false d) (sym c.used);
      room = omega (arith, m.room, c.used);
      states = omega (arith, m.states, k.states, c.used);
      null_is = c.null ∙ ap₂ (λ (a b : Bool). a && b) k.null_is m.null_is;
      first_is = c.first ∙ ap₂ bit_or k.first_is (ap₂ when k.null_is (m.first_is ∙ ap (first m.tree) k.states));
      last_is = c.last ∙ ap₂ bit_or (ap₂ when m.null_is k.last_is) (m.last_is ∙ ap (last m.tree) k.states);
      follow_is = follows;
      named_is = λ a b. ap (λ (z : List ℕ). get_or z a 0) l.names ∙ shift_names x y k m a b;
    }
  where
    follows : (s : ℕ) → s < 64 → get_or new.follow s 0 ≡ bit_or (get_or old.follow s 0) (follow (seq k.tree m.tree) u s)
    follows s b =
        l.entry s b ∙ ap₂ bit_or (shift_follow x y k m s b) (ap₂ (λ (a z : ℕ). linked a s z) k.last_is (m.first_is ∙ ap (first m.tree) k.states))
        ∙ union_assoc (get_or old.follow s 0) (bit_or (follow k.tree u s) (follow m.tree (u + size k.tree) s))
        (linked (last k.tree u) s (first m.tree (u + size k.tree)))

pub core_either : {text : List ℕ} {at d u : ℕ} {old mid new : Tables} (x y r : Piece)
    → Core alternation text at d u old mid x.null x.first x.last x.used x.next.place → TokenAt text x.next.place x.next.past bar
    → Core sequence text x.next.past d x.used mid new y.null y.first y.last y.used y.next.place → Parted x y r
    → Core alternation text at d u old new r.null r.first r.last r.used r.next.place
unfolding size nullable first last follow named
core_either {text} {at} {d} {u} {old} {mid} {new} x y r k t m c =
    record {
      tree = alt k.tree m.tree;
      tokens = k.tokens ++ (bar ∷ m.tokens);
      passes =
          subst (λ (z : ℕ). Passes text at (k.tokens ++ (bar ∷ m.tokens)) z) (sym (ap (λ (z : Look). z.place) c.next)) (passes_on k.passes (passes_on (token_passes t) m.passes));
      reads = either k.reads m.reads;
      scans =
          λ n. scan_append k.tokens (bar ∷ m.tokens) (going n d u) ∙ ap (scan (bar ∷ m.tokens)) (k.scans n) ∙ m.scans true
          ∙ ap (going false d) (sym c.used);
      room = omega (arith, m.room, c.used);
      states = omega (arith, m.states, k.states, c.used);
      null_is = c.null ∙ ap₂ (λ (a b : Bool). a || b) k.null_is m.null_is;
      first_is = c.first ∙ ap₂ bit_or k.first_is (m.first_is ∙ ap (first m.tree) k.states);
      last_is = c.last ∙ ap₂ bit_or k.last_is (m.last_is ∙ ap (last m.tree) k.states);
      follow_is = shift_follow x y k m;
      named_is = shift_names x y k m;
    }
