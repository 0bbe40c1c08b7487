-- Passing over a text from place to place: a passage goes on and stays within the text, and two that begin together have the same names and signs.
use mathlib.Core.Path.{◌≡◌, refl, ap₂}
use mathlib.Core.Bool.{Bool, true, false, cond}
use mathlib.Core.List.{List, [], ◌∷◌, ◌++◌}
use Prim.Native.Nat.{ℕ, suc, ◌≤◌, ◌<◌}
use native.Mathlib.Nat.{le_refl}
use native.Mathlib.Omega.{arith}
use lib.ListN.{length, drop, length-drop}
use Rattle.expressions.specs.Grammar.{Token}
use Rattle.expressions.specs.Texts.{Item, run_length, in_name, size_of, item_at, past_at, Passes}
use Rattle.expressions.specs.Texts.Item.{gap, token, bad}
use Rattle.expressions.specs.Texts.Passes.{here, space, item}

-- ---- places

pub pos_size : (bs : List ℕ) → 1 ≤ size_of bs
unfolding size_of run_length
pos_size [] = omega arith
pos_size (b ∷ bs) = go (in_name b) (run_length bs)
  where
    go : (t : Bool) (r : ℕ) → 1 ≤ cond t (cond t (suc r) 0) 1
    go true r = omega arith
    go false r = omega arith

pub past_more : (text : List ℕ) (q : ℕ) → q < past_at text q
unfolding past_at
past_more text q = omega (arith, pos_size (drop q text))

pub passes_le : {text : List ℕ} {a b : ℕ} {ts : List Token} → Passes text a ts b → a ≤ b
passes_le here = le_refl _
passes_le {text} {a} (space l e r) = omega (arith, past_more text a, passes_le r)
passes_le {text} {a} (item l e r) = omega (arith, past_more text a, passes_le r)

run_le : (bs : List ℕ) → run_length bs ≤ length bs
unfolding run_length
run_le [] = omega arith
run_le (b ∷ bs) = go (in_name b) (run_le bs)
  where
    go : (t : Bool) → run_length bs ≤ length bs → cond t (suc (run_length bs)) 0 ≤ suc (length bs)
    go true h = omega arith
    go false h = omega arith

size_le : (bs : List ℕ) → 0 < length bs → size_of bs ≤ length bs
unfolding size_of
size_le [] l = omega arith
size_le (b ∷ bs) l = go (in_name b) (run_le (b ∷ bs))
  where
    go : (t : Bool) → run_length (b ∷ bs) ≤ length (b ∷ bs) → cond t (run_length (b ∷ bs)) 1 ≤ suc (length bs)
    go true h = h
    go false h = omega arith

pub past_le : (text : List ℕ) (q : ℕ) → q < length text → past_at text q ≤ length text
unfolding past_at
past_le text q l = omega (arith, length-drop q text, size_le (drop q text) (omega (arith, length-drop q text)))

pub passes_end : {text : List ℕ} {a b : ℕ} {ts : List Token} → a ≤ length text → Passes text a ts b → b ≤ length text
passes_end l here = l
passes_end {text} {a} l (space h e r) = passes_end (past_le text a h) r
passes_end {text} {a} l (item h e r) = passes_end (past_le text a h) r

pub passes_on : {text : List ℕ} {a b c : ℕ} {us vs : List Token} → Passes text a us b → Passes text b vs c → Passes text a (us ++ vs) c
passes_on here q = q
passes_on (space h e r) q = space h e (passes_on r q)
passes_on (item h e r) q = item h e (passes_on r q)

-- two items are one
pub gap_token : {i : Item} {t : Token} → i ≡ gap → i ≡ token t → ⊥
gap_token {i} {t} p q = let z : ◌≡◌ {A = ℕ} 0 1 = cc in omega arith

pub bad_token : {i : Item} {t : Token} → i ≡ bad → i ≡ token t → ⊥
bad_token {i} {t} p q = let z : ◌≡◌ {A = ℕ} 0 1 = cc in omega arith

pub gap_bad : {i : Item} → i ≡ gap → i ≡ bad → ⊥
gap_bad {i} p q = let z : ◌≡◌ {A = ℕ} 0 1 = cc in omega arith

pub token_same : {i : Item} {t u : Token} → i ≡ token t → i ≡ token u → t ≡ u
token_same {i} {t} {u} p q = cc

-- what one passage has, a longer one has first
pub record Rest (text : List ℕ) (us : List Token) (p : ℕ) (ts : List Token) (to : ℕ) : Type 0 where
  pub more : List Token
  pub joins : ts ≡ us ++ more
  pub passes : Passes text p more to

pub split : {text : List ℕ} {a p to : ℕ} {us ts : List Token} → Passes text a us p → Passes text a ts to → p ≤ to → Rest text us p ts to
split {ts = ts} here q l = record { more = ts; joins = refl; passes = q }
split {text} {a} (space h e r) here l = absurd (omega (arith, past_more text a, passes_le r))
split (space h e r) (space h' e' r') l = split r r' l
split (space h e r) (item h' e' r') l = absurd (gap_token e e')
split {text} {a} (item h e r) here l = absurd (omega (arith, past_more text a, passes_le r))
split (item h e r) (space h' e' r') l = absurd (gap_token e' e)
split (item {t = t} h e r) (item {t = t'} h' e' r') l =
    let k = split r r' l in
    record { more = k.more; joins = ap₂ (λ (x : Token) (y : List Token). x ∷ y) (token_same e' e) k.joins; passes = k.passes }

-- nothing stands between a place and itself
pub none_here : {text : List ℕ} {a b : ℕ} {ts : List Token} → Passes text a ts b → a ≡ b → ts ≡ []
none_here here e = refl
none_here {text} {a} (space h e r) j = absurd (omega (arith, past_more text a, passes_le r))
none_here {text} {a} (item h e r) j = absurd (omega (arith, past_more text a, passes_le r))

-- what stands at a place that a passage goes beyond
pub data First (text : List ℕ) (a : ℕ) : List Token → Type 0 where
  first_gap : {ts : List Token} → item_at text a ≡ gap → First text a ts
  first_token : {t : Token} {ts : List Token} → item_at text a ≡ token t → First text a (t ∷ ts)

pub first_of : {text : List ℕ} {a b : ℕ} {ts : List Token} → Passes text a ts b → a < b → First text a ts
first_of here l = absurd (omega arith)
first_of (space h e r) l = first_gap e
first_of (item h e r) l = first_token e
