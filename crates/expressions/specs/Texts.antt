-- A text as bytes: its names and signs with their places, which text is right, and what is wrong with one that is refused (the scope, §14).
--   Item                 what stands at a place: a space, a name or sign, or neither
--   item_at text at      what stands there; past_at text at: the place after it
--   Passes text at ts to from one place to another the text has the names and signs ts
--   Means text e         the text is right, and e is its expression
--   Wrong text taken number place
--                        a fault of the text by number and place, where so many states are taken before its first name
--   FirstOf, FirstFault  the first of such faults, by place and then by number; there is only one (`one_first`)
use Rattle.std.specs.Prelude.{◌≡◌, ◌⊎◌, Bool, cond, ◌&&◌, ◌||◌, List, [], ◌∷◌, ◌++◌, ℕ, zero, suc, ◌+◌, ◌≤◌, ◌<◌, length, take, drop, eqb, leb, bytes_eq}
use Rattle.text.specs.Text.{word}
use Rattle.events.specs.Events.{event_name}
use Rattle.expressions.specs.Expressions.{Expr}
use Rattle.expressions.specs.Grammar.{Token, Right, Viable}
use Rattle.expressions.specs.Grammar.Leaf.{letter, unit, void}
use Rattle.expressions.specs.Grammar.Mark.{many, some, maybe}
use Rattle.expressions.specs.Grammar.Token.{leaf, mark, bar, open', close'}

-- ---- names and signs

-- a capital or a digit
abbrev pub in_name : ℕ → Bool
in_name b = (leb 48 b && leb b 57) || (leb 65 b && leb b 90)

-- the longest run of capitals and digits that the bytes begin with, as a count
unfoldable pub run_length : List ℕ → ℕ
run_length [] = 0
run_length (b ∷ bs) = cond (in_name b) (suc (run_length bs)) 0

-- what stands at a place: a space, a name or sign, or neither
pub data Item : Type 0 where
  gap : Item
  token : Token → Item
  bad : Item

-- the letter whose name the run is, among so many letters from a on
unfoldable pub look_up : List ℕ → ℕ → ℕ → Item
look_up run zero a = bad
look_up run (suc n) a = cond (bytes_eq run (event_name a)) (token (leaf (letter a))) (look_up run n (suc a))

-- 1 and 0 only as whole runs
unfoldable pub name_item : List ℕ → Item
name_item run = cond (bytes_eq run (word "1")) (token (leaf unit)) (cond (bytes_eq run (word "0")) (token (leaf void)) (look_up run 32 0))

unfoldable pub sign_item : ℕ → Item
sign_item b =
    cond (eqb b 32) gap
    (cond (eqb b 124) (token bar)
    (cond (eqb b 42) (token (mark many))
    (cond (eqb b 43) (token (mark some))
    (cond (eqb b 63) (token (mark maybe)) (cond (eqb b 40) (token open') (cond (eqb b 41) (token close') bad))))))

-- what the bytes begin with, and how many of them that takes
unfoldable pub item_of : List ℕ → Item
item_of [] = bad
item_of (b ∷ bs) = cond (in_name b) (name_item (take (run_length (b ∷ bs)) (b ∷ bs))) (sign_item b)

unfoldable pub size_of : List ℕ → ℕ
size_of [] = 1
size_of (b ∷ bs) = cond (in_name b) (run_length (b ∷ bs)) 1

unfoldable pub item_at : List ℕ → ℕ → Item
item_at text at = item_of (drop at text)

unfoldable pub past_at : List ℕ → ℕ → ℕ
past_at text at = at + size_of (drop at text)

-- from one place to another the text has these names and signs
pub data Passes (text : List ℕ) : ℕ → List Token → ℕ → Type 0 where
  here : {at : ℕ} → Passes text at [] at
  space : {at to : ℕ} {ts : List Token} → at < length text → item_at text at ≡ gap → Passes text (past_at text at) ts to → Passes text at ts to
  item : {at to : ℕ} {t : Token} {ts : List Token} → at < length text → item_at text at ≡ token t → Passes text (past_at text at) ts to
      → Passes text at (t ∷ ts) to

-- the text is right, and this is its expression
pub record Means (text : List ℕ) (e : Expr) : Type 0 where
  pub tokens : List Token
  pub passes : Passes text 0 tokens (length text)
  pub right : Right tokens e

-- ---- what can be wrong

-- how many event names, open and closing parentheses
unfoldable pub events : List Token → ℕ
events [] = 0
events (leaf (letter a) ∷ ts) = suc (events ts)
events (leaf unit ∷ ts) = events ts
events (leaf void ∷ ts) = events ts
events (mark m ∷ ts) = events ts
events (bar ∷ ts) = events ts
events (open' ∷ ts) = events ts
events (close' ∷ ts) = events ts

unfoldable pub opens : List Token → ℕ
opens [] = 0
opens (leaf l ∷ ts) = opens ts
opens (mark m ∷ ts) = opens ts
opens (bar ∷ ts) = opens ts
opens (open' ∷ ts) = suc (opens ts)
opens (close' ∷ ts) = opens ts

unfoldable pub shuts : List Token → ℕ
shuts [] = 0
shuts (leaf l ∷ ts) = shuts ts
shuts (mark m ∷ ts) = shuts ts
shuts (bar ∷ ts) = shuts ts
shuts (open' ∷ ts) = shuts ts
shuts (close' ∷ ts) = suc (shuts ts)

-- a fault of the text by number and place, where so many states are taken before its first name
pub data Wrong (text : List ℕ) (taken : ℕ) : ℕ → ℕ → Type 0 where
  -- 30: no right text has this name or sign there
  misplaced : {ts : List Token} {t : Token} {q : ℕ} → Passes text 0 ts q → q < length text → item_at text q ≡ token t → (Viable (ts ++ (t ∷ [])) → ⊥)
      → Wrong text taken 30 q
  -- 30: no right text has this byte or this name anywhere
  unknown : {ts : List Token} {q : ℕ} → Passes text 0 ts q → q < length text → item_at text q ≡ bad → Wrong text taken 30 q
  -- 30: the text ends too soon
  unfinished : {ts : List Token} → Passes text 0 ts (length text) → ((e : Expr) → Right ts e → ⊥) → Wrong text taken 30 (length text)
  -- 31: an event name, and no state is left
  too_many : {ts : List Token} {a q : ℕ} → Passes text 0 ts q → q < length text → item_at text q ≡ token (leaf (letter a)) → 64 ≤ taken + events ts
      → Wrong text taken 31 q
  -- 32: a parenthesis opens, and 32 are open
  too_deep : {ts : List Token} {q : ℕ} → Passes text 0 ts q → q < length text → item_at text q ≡ token open' → 32 + shuts ts ≤ opens ts
      → Wrong text taken 32 q

-- the first of such faults, by place and then by number
pub record FirstOf (Fault : ℕ → ℕ → Type 0) (number place : ℕ) : Type 0 where
  pub wrong : Fault number place
  pub least : (m q : ℕ) → Fault m q → (place < q) ⊎ ((place ≡ q) × (number ≤ m))

abbrev pub FirstFault : List ℕ → ℕ → ℕ → ℕ → Type 0
FirstFault text taken = FirstOf (Wrong text taken)
