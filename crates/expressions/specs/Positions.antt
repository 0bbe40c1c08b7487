-- The position construction (the scope, §14). The event names of an expression are numbered in order of occurrence: position p is the first of them.
-- A set of positions is a mask, as a set of states is. That the automaton accepts what the expression takes is shown in proofs/Glushkov.
--   size e             how many event names e has
--   nullable e         e takes the empty sequence
--   first e p, last e p
--                      the positions that a sequence can begin with, and end with
--   follow e p s       the positions that can come right after position s
--   named e p a        the positions that carry the letter a
--   row_of e b s a     the row of state s by letter a, where state b is the start and position s is state s, from b + 1 on
--   finals_of e b      the final states: the last positions, and the start where the empty sequence is taken
--   second e, states e f
--                      the start of a second expression, and the states of two
--   Together e f rows finals
--                      the rows and the finals of two expressions side by side, 32 rows to a state
use Rattle.std.specs.Prelude.{◌≡◌, Bool, true, false, ◌&&◌, ◌||◌, List, ℕ, suc, ◌+◌, ◌*◌, ◌^◌, ◌<◌, get_or, eqb}
use Rattle.std.specs.Int.Bits.{bit_or, bit_and}
use Rattle.sets.specs.Sets.{bit}
use Rattle.expressions.specs.Expressions.{Expr}
use Rattle.expressions.specs.Expressions.Expr.{event, one, nought, alt, seq, star, plus, opt}

-- how many event names it has
unfoldable pub size : Expr → ℕ
size (event a) = 1
size one = 0
size nought = 0
size (alt e f) = size e + size f
size (seq e f) = size e + size f
size (star e) = size e
size (plus e) = size e
size (opt e) = size e

-- it takes the empty sequence
unfoldable pub nullable : Expr → Bool
nullable (event a) = false
nullable one = true
nullable nought = false
nullable (alt e f) = nullable e || nullable f
nullable (seq e f) = nullable e && nullable f
nullable (star e) = true
nullable (plus e) = nullable e
nullable (opt e) = true

-- the mask m where the test holds, else nothing
unfoldable pub when : Bool → ℕ → ℕ
when true m = m
when false m = 0

-- the positions that a sequence can begin with
unfoldable pub first : Expr → ℕ → ℕ
first (event a) p = 2 ^ p
first one p = 0
first nought p = 0
first (alt e f) p = bit_or (first e p) (first f (p + size e))
first (seq e f) p = bit_or (first e p) (when (nullable e) (first f (p + size e)))
first (star e) p = first e p
first (plus e) p = first e p
first (opt e) p = first e p

-- the positions that a sequence can end with
unfoldable pub last : Expr → ℕ → ℕ
last (event a) p = 2 ^ p
last one p = 0
last nought p = 0
last (alt e f) p = bit_or (last e p) (last f (p + size e))
last (seq e f) p = bit_or (when (nullable f) (last e p)) (last f (p + size e))
last (star e) p = last e p
last (plus e) p = last e p
last (opt e) p = last e p

-- the mask m if the position s is in the set l, else nothing
abbrev pub linked : ℕ → ℕ → ℕ → ℕ
linked l s m = bit l s * m

-- the positions that can come right after position s
unfoldable pub follow : Expr → ℕ → ℕ → ℕ
follow (event a) p s = 0
follow one p s = 0
follow nought p s = 0
follow (alt e f) p s = bit_or (follow e p s) (follow f (p + size e) s)
follow (seq e f) p s = bit_or (bit_or (follow e p s) (follow f (p + size e) s)) (linked (last e p) s (first f (p + size e)))
follow (star e) p s = bit_or (follow e p s) (linked (last e p) s (first e p))
follow (plus e) p s = bit_or (follow e p s) (linked (last e p) s (first e p))
follow (opt e) p s = follow e p s

-- the positions that carry the letter a
unfoldable pub named : Expr → ℕ → ℕ → ℕ
named (event b) p a = when (eqb a b) (2 ^ p)
named one p a = 0
named nought p a = 0
named (alt e f) p a = bit_or (named e p a) (named f (p + size e) a)
named (seq e f) p a = bit_or (named e p a) (named f (p + size e) a)
named (star e) p a = named e p a
named (plus e) p a = named e p a
named (opt e) p a = named e p a

-- The automaton: state b is the start, and position s is state s, from b + 1 on.
-- what comes right after state s: after the start, the first positions
unfoldable pub next_of : Expr → ℕ → ℕ → ℕ
next_of e b s = bit_or (linked (2 ^ b) s (first e (suc b))) (follow e (suc b) s)

-- the row of state s by letter a
unfoldable pub row_of : Expr → ℕ → ℕ → ℕ → ℕ
row_of e b s a = bit_and (next_of e b s) (named e (suc b) a)

-- the final states: the last positions, and the start where the empty sequence is taken
unfoldable pub finals_of : Expr → ℕ → ℕ
finals_of e b = bit_or (last e (suc b)) (when (nullable e) (2 ^ b))

-- the second start: the first has its names before it
abbrev pub second : Expr → ℕ
second e = suc (size e)

-- the states of both
abbrev pub states : Expr → Expr → ℕ
states e f = second e + suc (size f)

-- the rows and the finals of two expressions put together, 32 rows to a state
pub record Together (e f : Expr) (rows : List ℕ) (finals : ℕ) : Type 0 where
  pub row : (s a : ℕ) → s < states e f → a < 32 → get_or rows (s * 32 + a) 0 ≡ bit_or (row_of e 0 s a) (row_of f (second e) s a)
  pub final : finals ≡ bit_or (finals_of e 0) (finals_of f (second e))
