-- Two texts that nothing is wrong with have no more states than a pattern may have, so that 2,048 rows are always enough.
use mathlib.Core.Path.{◌≡◌, refl, subst}
use mathlib.Core.List.{List, [], ◌∷◌, ◌++◌}
use Prim.Native.Nat.{ℕ, ◌+◌, ◌≤◌, ◌<◌}
use native.Mathlib.Decide.{dec_lt}
use native.Mathlib.Omega.{arith}
use lib.ListN.{length}
use Rattle.std.proofs.lemmas.List.{append-nil}
use Rattle.expressions.specs.Expressions.{Expr}
use Rattle.expressions.specs.Grammar.{Token, Level, Reads}
use Rattle.expressions.specs.Grammar.Leaf.{letter, unit, void}
use Rattle.expressions.specs.Grammar.Mark.{many, some, maybe}
use Rattle.expressions.specs.Grammar.Token.{leaf, mark, bar, open', close'}
use Rattle.expressions.specs.Grammar.Reads.{lone, either, single, further, name, marked, group}
use Rattle.expressions.specs.Positions.{size, second, states}
use Rattle.expressions.specs.Texts.{item_at, past_at, Passes, Means, Wrong, events}
use Rattle.expressions.specs.Texts.Item.{token}
use Rattle.expressions.specs.Texts.Passes.{here, space, item}
use Rattle.expressions.specs.Texts.Wrong.{misplaced, unknown, unfinished, too_many, too_deep}
use Rattle.expressions.specs.Answers.{Fine, WrongSecond, FineSecond, Refusal}
use Rattle.expressions.specs.Answers.WrongSecond.{no_start, in_text}
use Rattle.expressions.specs.Answers.Refusal.{first_text, second_text, no_room}
use Rattle.expressions.proofs.Passing.{passes_on}

-- ---- the event names of a text are those of its expression

events_append : (us vs : List Token) → events (us ++ vs) ≡ events us + events vs
unfolding events
events_append [] vs = omega arith
events_append (leaf (letter a) ∷ us) vs = omega (arith, events_append us vs)
events_append (leaf unit ∷ us) vs = events_append us vs
events_append (leaf void ∷ us) vs = events_append us vs
events_append (mark m ∷ us) vs = events_append us vs
events_append (bar ∷ us) vs = events_append us vs
events_append (open' ∷ us) vs = events_append us vs
events_append (close' ∷ us) vs = events_append us vs

size_events : {l : Level} {ts : List Token} {e : Expr} → Reads l ts e → events ts ≡ size e
unfolding events size
size_events (lone r) = size_events r
size_events (either {us} {vs} r q) = omega (arith, events_append us (bar ∷ vs), size_events r, size_events q)
size_events (single r) = size_events r
size_events (further {us} {vs} r q) = omega (arith, events_append us vs, size_events r, size_events q)
size_events (name (letter a)) = refl
size_events (name unit) = refl
size_events (name void) = refl
size_events (marked {ts} r many) = omega (arith, events_append ts (mark many ∷ []), size_events r)
size_events (marked {ts} r some) = omega (arith, events_append ts (mark some ∷ []), size_events r)
size_events (marked {ts} r maybe) = omega (arith, events_append ts (mark maybe ∷ []), size_events r)
size_events (group {ts} r) = omega (arith, events_append ts (close' ∷ []), size_events r)

-- ---- as far as a passage goes, each event name has a state

module _ {text : List ℕ} {taken : ℕ} (faultless : (m q : ℕ) → Wrong text taken m q → ⊥) where
  one_more : {at : ℕ} (us : List Token) (t : Token) → taken + events us ≤ 64 → Passes text 0 us at → at < length text → item_at text at ≡ token t
      → taken + events (us ++ (t ∷ [])) ≤ 64
  unfolding events
  one_more {at} us (leaf (letter a)) l p h e = go (dec_lt (taken + events us) 64)
    where
      go : Dec (taken + events us < 64) → taken + events (us ++ (leaf (letter a) ∷ [])) ≤ 64
      go (yes g) = omega (arith, g, events_append us (leaf (letter a) ∷ []))
      go (no g) = absurd (faultless 31 at (too_many p h e (omega arith)))
  one_more us (leaf unit) l p h e = omega (arith, l, events_append us (leaf unit ∷ []))
  one_more us (leaf void) l p h e = omega (arith, l, events_append us (leaf void ∷ []))
  one_more us (mark m) l p h e = omega (arith, l, events_append us (mark m ∷ []))
  one_more us bar l p h e = omega (arith, l, events_append us (bar ∷ []))
  one_more us open' l p h e = omega (arith, l, events_append us (open' ∷ []))
  one_more us close' l p h e = omega (arith, l, events_append us (close' ∷ []))

  few : {at to : ℕ} (us ts : List Token) → taken + events us ≤ 64 → Passes text 0 us at → Passes text at ts to → taken + (events us + events ts) ≤ 64
  unfolding events
  few us [] l p here = omega (arith, l)
  few us ts l p (space {at} h e r) =
      few us ts l (subst (λ (vs : List Token). Passes text 0 vs (past_at text at)) (append-nil us) (passes_on p (space h e here))) r
  few us (t ∷ ts) l p (item h e r) =
      omega (arith, few (us ++ (t ∷ [])) ts (one_more us t l p h e) (passes_on p (item h e here)) r, events_append us (t ∷ []), events_append (t ∷ []) ts)

  few_names : {e : Expr} → taken ≤ 64 → Means text e → taken + size e ≤ 64
  unfolding events
  few_names l m = omega (arith, few [] m.tokens (omega (arith, l)) here m.passes, size_events m.right)

-- ---- both texts

pub few_states : {one two : List ℕ} {e f : Expr} → Fine one 1 e → FineSecond two (second e) f → states e f ≤ 64
few_states {two = two} {e} {f} a b = go (dec_lt (second e) 64)
  where
    go : Dec (second e < 64) → states e f ≤ 64
    go (yes l) = omega (arith, few_names (λ m q w. b.faultless m q (in_text w)) l b.means)
    go (no l) = absurd (b.faultless 31 0 (no_start (omega arith)))

-- ---- the rows

wrong_from : {text : List ℕ} {taken number place : ℕ} → Wrong text taken number place → 30 ≤ number
wrong_from (misplaced r h e v) = omega arith
wrong_from (unknown r h e) = omega arith
wrong_from (unfinished r f) = omega arith
wrong_from (too_many r h e g) = omega arith
wrong_from (too_deep r h e g) = omega arith

second_from : {text : List ℕ} {b number place : ℕ} → WrongSecond text b number place → 30 ≤ number
second_from (no_start g) = omega arith
second_from (in_text w) = wrong_from w

-- where 2,048 rows are lent, no pair of texts is refused for want of room
pub rows_enough : {one two rows : List ℕ} {number place text : ℕ} → Refusal one two rows number place text → 2048 ≤ length rows → number ≡ 14 → ⊥
rows_enough (first_text f) l e = omega (arith, wrong_from f.wrong, e)
rows_enough (second_text a f) l e = omega (arith, second_from f.wrong, e)
rows_enough (no_room a b m) l e = omega (arith, few_states a b, m, l)
