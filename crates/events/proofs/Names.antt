-- What the names are: none is empty, none is longer than nine bytes, and no two of letters below 32 are alike. Assumes nothing.
use mathlib.Core.Path.{◌≡◌, refl, sym, ap, ◌∙◌}
use mathlib.Core.Bool.{Bool, not, ◌&&◌}
use mathlib.Core.List.{List, [], ◌++◌, map}
use Prim.Native.Nat.{ℕ, ◌<◌, ◌≤◌}
use native.Mathlib.Decide.{dec_lt}
use native.Mathlib.Omega.{arith}
use lib.Dec.{T, leb, leb→le, T_not}
use lib.ListN.{length, take, get_or, get_or-eq_default, get_or-map}
use Rattle.std.specs.Borrow.{Bor}
use Rattle.std.proofs.lemmas.List.{get_or_default}
use Rattle.lent.proofs.Filling.{Splits}
use Rattle.text.specs.Text.{word, digits, decimal}
use Rattle.events.specs.Events.{names, event_name}
use Rattle.events.specs.declared.TheConstants.{NAMES}
use Rattle.events.proofs.Computed.{both, every, every_at, same, same_equal, same_self}

pub name_high : (a : ℕ) → 12 ≤ a → event_name a ≡ word "E" ++ decimal a
unfolding event_name names
name_high a h = get_or-eq_default names (word "E" ++ decimal a) h

pub name_numbered : (a : ℕ) → 12 ≤ a → Splits (event_name a) (word "E") (decimal a)
name_numbered a h = record { parts = name_high a h }

-- what a table of slices has at a place is what the list of their bytes has there
pub bytes_at : (table : List (Bor (List ℕ))) (i : ℕ) (d : Bor (List ℕ)) → (get_or table i d).now ≡ get_or (map (λ (x : Bor (List ℕ)). x.now) table) i d.now
bytes_at table i d = sym (get_or-map (λ (x : Bor (List ℕ)). x.now) table i d)

-- what the slices of the code's table hold, by letter
abbrev pub table : List (List ℕ)
table = map (λ x. x.now) NAMES

-- its first twelve are the scope's list
pub table_is : take 12 table ≡ names
unfolding names
table_is = refl

-- each of its rows is its letter's name, by one test of all
row_right : ℕ → Bool
row_right a = same (get_or table a []) (event_name a)

rows_right : T (every row_right (length table))
unfolding row_right event_name names decimal digits
rows_right = tt

-- each stands at its letter of the code's table, in its length
pub row_is : (a : ℕ) (d : List ℕ) → a < length table → get_or table a d ≡ event_name a
unfolding row_right
row_is a d h = get_or_default table a d [] h ∙ same_equal (get_or table a []) (event_name a) (every_at row_right (length table) rows_right a h)

pub length_is : (a : ℕ) (d : List ℕ) → a < length table → length (get_or table a d) ≡ length (event_name a)
length_is a d h = ap length (row_is a d h)

-- the row at a place that is a letter's is the letter's name
pub row_found : {row : List ℕ} {place : ℕ} (letter : ℕ) (d : List ℕ) → row ≡ get_or table place d → place < length table → place ≡ letter → row ≡ event_name letter
row_found {place = place} letter d e h s = e ∙ row_is place d h ∙ ap event_name s

-- a name has one to nine bytes
fair : ℕ → Bool
fair a = leb 1 (length (event_name a)) && leb (length (event_name a)) 9

all_fair : T (every fair 256)
unfolding fair event_name names decimal digits
all_fair = tt

name_fair : (a : ℕ) → a < 256 → T (leb 1 (length (event_name a))) × T (leb (length (event_name a)) 9)
unfolding fair
name_fair a h = both (leb 1 (length (event_name a))) (leb (length (event_name a)) 9) (every_at fair 256 all_fair a h)

pub name_some : (a : ℕ) → a < 256 → 0 < length (event_name a)
name_some a h = leb→le 1 (length (event_name a)) (name_fair a h).0

pub name_short : (a : ℕ) → a < 256 → length (event_name a) ≤ 9
name_short a h = leb→le (length (event_name a)) 9 (name_fair a h).1

-- CLOCKBACK
pub name_longest : length (event_name 10) ≡ 9
unfolding event_name names decimal digits
name_longest = refl

-- the names of a letter and of each before it differ
apart : ℕ → Bool
apart a = every (λ b. not (same (event_name a) (event_name b))) a

all_apart : T (every apart 32)
unfolding apart event_name names decimal digits
all_apart = tt

never_alike : (a b : ℕ) → a < 32 → b < a → event_name a ≡ event_name b → ⊥
unfolding apart
never_alike a b h l e =
    T_not (same (event_name a) (event_name b)) (every_at (λ b. not (same (event_name a) (event_name b))) a (every_at apart 32 all_apart a h) b l)
    (rw (← e) (same_self (event_name a)))

pub name_injective : (a b : ℕ) → a < 32 → b < 32 → event_name a ≡ event_name b → a ≡ b
name_injective a b h k e =
    elim (dec_lt b a) [
      | yes l ↦ absurd (never_alike a b h l e)
      | no m ↦ elim (dec_lt a b) [ yes l ↦ absurd (never_alike b a k l (sym e)) | no n ↦ omega arith ]
    ]

-- ---- as they look

first_numbered : event_name 12 ≡ word "E12"
unfolding event_name names decimal digits
first_numbered = refl

last_numbered : event_name 31 ≡ word "E31"
unfolding event_name names decimal digits
last_numbered = refl
