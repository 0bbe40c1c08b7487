-- What the contracts of the functions cite that read a whole text and put two together. Private functions alone cite this file: no promise
-- to a host rests on it.
--   Whole, Judged    what reading a whole text has found, and what it answers
--   Crowded          the answer where no state is left for the second start
--   finals_from      the final states of both
--   Filled           what writing the rows leaves
use Rattle.std.specs.Prelude.{◌≡◌, ◌⊎◌, List, ℕ, ◌+◌, ◌/◌, ◌%◌, ◌≤◌, ◌<◌, length, get_or, Result, Ok, Err}
use Rattle.std.specs.Int.Bits.{bit_or, bit_and}
use Rattle.verdict.specs.declared.Fault.{Fault}
use Rattle.verdict.specs.declared.Refusal.TheVariants.{TooMany}
use Rattle.verdict.specs.Refusals.{number}
use Rattle.expressions.specs.Expressions.{Expr}
use Rattle.expressions.specs.Positions.{size, nullable, when, first, last, follow, named}
use Rattle.expressions.specs.Texts.{Means, Wrong, FirstFault}
use Rattle.expressions.specs.Answers.{of_text}
use Rattle.expressions.specs.declared.Piece.{Piece}
use Rattle.expressions.specs.declared.Tables.{Tables}
use Rattle.expressions.specs.declared.TextFault.{TextFault}

-- ---- a whole text, where so many states are taken

pub record Whole (text : List ℕ) (taken : ℕ) (old new : Tables) (x : Piece) : Type 0 where
  pub tree : Expr
  pub means : Means text tree
  pub faultless : (m q : ℕ) → Wrong text taken m q → ⊥
  pub states : x.used ≡ taken + size tree
  pub room : x.used ≤ 64
  pub null_is : x.null ≡ nullable tree
  pub first_is : x.first ≡ first tree taken
  pub last_is : x.last ≡ last tree taken
  pub follow_is : (s : ℕ) → s < 64 → get_or new.follow s 0 ≡ bit_or (get_or old.follow s 0) (follow tree taken s)
  pub named_is : (a : ℕ) → a < 32 → get_or new.named a 0 ≡ bit_or (get_or old.named a 0) (named tree taken a)

abbrev pub Judged : List ℕ → ℕ → Tables → Tables → Result Piece Fault → Type 0
Judged text taken old new (Ok x) = Whole text taken old new x
Judged text taken old new (Err f) = FirstFault text taken (number f.why) f.place

-- ---- the answer where no state is left for the second start

abbrev pub no_start : Fault
no_start = record { why = TooMany; place = 0 }

abbrev pub Crowded : Result Piece Fault → TextFault → Type 0
Crowded (Ok x) r = r ≡ of_text 2 no_start
Crowded (Err f) r = ((f.place ≡ 0) × (r ≡ of_text 2 f)) ⊎ ((f.place ≡ 0 → ⊥) × (r ≡ of_text 2 no_start))

unfoldable pub finals_from : Piece → Piece → ℕ → ℕ
finals_from x y start = bit_or (bit_or x.last (when x.null 1)) (bit_or y.last (when y.null start))

-- ---- the rows

pub record Filled (k : ℕ) (t : Tables) (rows rows' : List ℕ) : Type 0 where
  pub long : length rows' ≡ length rows
  pub entry : (i : ℕ) → i < k → get_or rows' i 0 ≡ bit_and (get_or t.follow (i / 32) 0) (get_or t.named (i % 32) 0)
  pub rest : (i : ℕ) → k ≤ i → get_or rows' i 0 ≡ get_or rows i 0
