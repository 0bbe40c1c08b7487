-- That no right list of tokens begins so is that no right text does: a list of names and signs that some right list goes on from
-- can be gone on from in the text itself, byte for byte the same up to there.
use mathlib.Core.Path.{◌≡◌, refl, sym, ap, ◌∙◌, subst}
use mathlib.Core.Bool.{Bool, true, false, cond}
use mathlib.Core.List.{List, [], ◌∷◌, ◌++◌, append-nil, append_assoc}
use Prim.Native.Nat.{ℕ, zero, suc, ◌+◌, ◌≤◌, ◌<◌}
use native.Mathlib.Omega.{arith}
use lib.ListN.{length, take, drop, length-append, take-append-drop, length-drop}
use lib.Seq.{take-append-le, drop-append-le, take_at, drop_at, length-take-le}
use Rattle.expressions.specs.Expressions.{Expr}
use Rattle.expressions.specs.Grammar.{Token, Right, Viable}
use Rattle.expressions.specs.Grammar.Leaf.{unit}
use Rattle.expressions.specs.Grammar.Token.{leaf, close'}
use Rattle.expressions.specs.Texts.{in_name, run_length, name_item, sign_item, item_of, size_of, item_at, past_at, Passes, Means}
use Rattle.expressions.specs.Texts.Item.{gap, token}
use Rattle.expressions.specs.Texts.Passes.{here, space, item}
use Rattle.expressions.proofs.Passing.{passes_on, passes_le, past_more, pos_size, split}
use Rattle.expressions.proofs.Machine.{closers, finish, viable_live}

-- ---- what follows a space does not matter before it

run_cut : (xs ys zs : List ℕ) → run_length (xs ++ ys) ≤ length xs → run_length (xs ++ (32 ∷ zs)) ≡ run_length (xs ++ ys)
unfolding run_length
run_cut [] ys zs l = omega arith
run_cut (b ∷ xs) ys zs l = go (in_name b) l (run_cut xs ys zs)
  where
    go : (t : Bool) → cond t (suc (run_length (xs ++ ys))) 0 ≤ suc (length xs)
        → (run_length (xs ++ ys) ≤ length xs → run_length (xs ++ (32 ∷ zs)) ≡ run_length (xs ++ ys))
        → cond t (suc (run_length (xs ++ (32 ∷ zs)))) 0 ≡ cond t (suc (run_length (xs ++ ys))) 0
    go true h f = ap suc (f (omega arith))
    go false h f = refl

take_cut : (k : ℕ) (xs ys zs : List ℕ) → k ≤ length xs → take k (xs ++ zs) ≡ take k (xs ++ ys)
take_cut k xs ys zs l = take-append-le k xs zs l ∙ sym (take-append-le k xs ys l)

size_cut : (xs ys zs : List ℕ) → size_of (xs ++ ys) ≤ length xs → size_of (xs ++ (32 ∷ zs)) ≡ size_of (xs ++ ys)
unfolding size_of
size_cut [] ys zs l = absurd (omega (arith, pos_size ys))
size_cut (b ∷ xs) ys zs l = go (in_name b) l
  where
    go : (t : Bool) → cond t (run_length (b ∷ (xs ++ ys))) 1 ≤ suc (length xs)
        → cond t (run_length (b ∷ (xs ++ (32 ∷ zs)))) 1 ≡ cond t (run_length (b ∷ (xs ++ ys))) 1
    go true h = run_cut (b ∷ xs) ys zs h
    go false h = refl

item_cut : (xs ys zs : List ℕ) → size_of (xs ++ ys) ≤ length xs → item_of (xs ++ (32 ∷ zs)) ≡ item_of (xs ++ ys)
unfolding item_of size_of
item_cut [] ys zs l = absurd (omega (arith, pos_size ys))
item_cut (b ∷ xs) ys zs l = go (in_name b) l
  where
    go : (t : Bool) → cond t (run_length (b ∷ (xs ++ ys))) 1 ≤ suc (length xs)
        → cond t (name_item (take (run_length (b ∷ (xs ++ (32 ∷ zs)))) (b ∷ (xs ++ (32 ∷ zs))))) (sign_item b) ≡ cond t
        (name_item (take (run_length (b ∷ (xs ++ ys))) (b ∷ (xs ++ ys)))) (sign_item b)
    go true h =
        ap (λ (k : ℕ). name_item (take k (b ∷ (xs ++ (32 ∷ zs))))) (run_cut (b ∷ xs) ys zs h)
        ∙ ap name_item (take_cut (run_length (b ∷ (xs ++ ys))) (b ∷ xs) ys (32 ∷ zs) h)
    go false h = refl

module _ (pre ys zs : List ℕ) where
  at_cut : (a : ℕ) → a ≤ length pre → past_at (pre ++ ys) a ≤ length pre → item_at (pre ++ (32 ∷ zs)) a ≡ item_at (pre ++ ys) a
  unfolding item_at past_at
  at_cut a l h =
      let d = drop-append-le a pre ys l in
      ap item_of (drop-append-le a pre (32 ∷ zs) l) ∙ item_cut (drop a pre) ys zs (omega (arith, length-drop a pre, ap size_of d)) ∙ ap item_of (sym d)

  past_cut : (a : ℕ) → a ≤ length pre → past_at (pre ++ ys) a ≤ length pre → past_at (pre ++ (32 ∷ zs)) a ≡ past_at (pre ++ ys) a
  unfolding past_at
  past_cut a l h =
      let d = drop-append-le a pre ys l in
      ap (λ (z : ℕ). a + z)
      (ap size_of (drop-append-le a pre (32 ∷ zs) l) ∙ size_cut (drop a pre) ys zs (omega (arith, length-drop a pre, ap size_of d)) ∙ ap size_of (sym d))

  passes_cut : {a p : ℕ} {ts : List Token} → Passes (pre ++ ys) a ts p → p ≤ length pre → Passes (pre ++ (32 ∷ zs)) a ts p
  passes_cut here l = here
  passes_cut {a} {p} {ts} (space h e r) l =
      let m = past_more (pre ++ ys) a in
      let n = passes_le r in
      space {at = a} (omega (arith, length-append pre (32 ∷ zs))) (at_cut a (omega arith) (omega arith) ∙ e)
      (subst (λ (z : ℕ). Passes (pre ++ (32 ∷ zs)) z ts p) (sym (past_cut a (omega arith) (omega arith))) (passes_cut r l))
  passes_cut {a} {p} (item {ts = ts} h e r) l =
      let m = past_more (pre ++ ys) a in
      let n = passes_le r in
      item {at = a} (omega (arith, length-append pre (32 ∷ zs))) (at_cut a (omega arith) (omega arith) ∙ e)
      (subst (λ (z : ℕ). Passes (pre ++ (32 ∷ zs)) z ts p) (sym (past_cut a (omega arith) (omega arith))) (passes_cut r l))

-- ---- the text is finished by ` 1` and closing parentheses

parens : ℕ → List ℕ
parens zero = []
parens (suc n) = 41 ∷ parens n

item_here : (xs ys : List ℕ) → item_at (xs ++ ys) (length xs) ≡ item_of ys
unfolding item_at
item_here xs ys = ap item_of (drop_at xs ys (length xs) refl)

past_here : (xs ys : List ℕ) → past_at (xs ++ ys) (length xs) ≡ length xs + size_of ys
unfolding past_at
past_here xs ys = ap (λ (z : List ℕ). length xs + size_of z) (drop_at xs ys (length xs) refl)

-- one byte further
shift : (xs : List ℕ) (b : ℕ) (ys : List ℕ) {ts : List Token} → size_of (b ∷ ys) ≡ 1
    → Passes ((xs ++ (b ∷ [])) ++ ys) (length (xs ++ (b ∷ []))) ts (length ((xs ++ (b ∷ [])) ++ ys))
    → Passes (xs ++ (b ∷ ys)) (past_at (xs ++ (b ∷ ys)) (length xs)) ts (length (xs ++ (b ∷ ys)))
shift xs b ys {ts} e r =
    let j : length (xs ++ (b ∷ [])) ≡ past_at (xs ++ (b ∷ ys)) (length xs) = length-append xs (b ∷ []) ∙ ap (λ (z : ℕ). length xs + z) (sym e)
    ∙ sym (past_here xs (b ∷ ys)) in
    subst (λ (z : ℕ). Passes (xs ++ (b ∷ ys)) z ts (length (xs ++ (b ∷ ys)))) j
    (subst (λ (z : List ℕ). Passes z (length (xs ++ (b ∷ []))) ts (length z)) (append_assoc xs (b ∷ []) ys) r)

inside_here : (xs : List ℕ) (b : ℕ) (ys : List ℕ) → length xs < length (xs ++ (b ∷ ys))
inside_here xs b ys = omega (arith, length-append xs (b ∷ ys))

close_item : (ys : List ℕ) → item_of (41 ∷ ys) ≡ token close'
unfolding item_of sign_item
close_item ys = refl

gap_item : (ys : List ℕ) → item_of (32 ∷ ys) ≡ gap
unfolding item_of sign_item
gap_item ys = refl

close_size : (ys : List ℕ) → size_of (41 ∷ ys) ≡ 1
unfolding size_of
close_size ys = refl

gap_size : (ys : List ℕ) → size_of (32 ∷ ys) ≡ 1
unfolding size_of
gap_size ys = refl

paren_passes : (n : ℕ) (xs : List ℕ) → Passes (xs ++ parens n) (length xs) (closers n) (length (xs ++ parens n))
unfolding parens closers
paren_passes zero xs = subst (λ (z : ℕ). Passes (xs ++ []) z [] (length (xs ++ []))) (ap length (append-nil xs)) here
paren_passes (suc n) xs =
    item {at = length xs} (inside_here xs 41 (parens n)) (item_here xs (41 ∷ parens n) ∙ close_item (parens n))
    (shift xs 41 (parens n) (close_size (parens n)) (paren_passes n (xs ++ (41 ∷ []))))

one_item : (n : ℕ) → item_of (49 ∷ parens n) ≡ token (leaf unit)
unfolding item_of name_item run_length parens
one_item zero = refl
one_item (suc n) = refl

one_size : (n : ℕ) → size_of (49 ∷ parens n) ≡ 1
unfolding size_of run_length parens
one_size zero = refl
one_size (suc n) = refl

tail_passes : (n : ℕ) (xs : List ℕ) → Passes (xs ++ (32 ∷ 49 ∷ parens n)) (length xs) (leaf unit ∷ closers n) (length (xs ++ (32 ∷ 49 ∷ parens n)))
tail_passes n xs =
    space {at = length xs} (inside_here xs 32 (49 ∷ parens n)) (item_here xs (32 ∷ 49 ∷ parens n) ∙ gap_item (49 ∷ parens n))
    (shift xs 32 (49 ∷ parens n) (gap_size (49 ∷ parens n)) (one (xs ++ (32 ∷ []))))
  where
    one : (ws : List ℕ) → Passes (ws ++ (49 ∷ parens n)) (length ws) (leaf unit ∷ closers n) (length (ws ++ (49 ∷ parens n)))
    one ws =
        item {at = length ws} (inside_here ws 49 (parens n)) (item_here ws (49 ∷ parens n) ∙ one_item n)
        (shift ws 49 (parens n) (one_size n) (paren_passes n (ws ++ (49 ∷ []))))

-- ---- the two wordings

-- a right text with the same bytes up to p, and up to there the same names and signs
pub record Beyond (text : List ℕ) (ts : List Token) (p : ℕ) : Type 0 where
  pub other : List ℕ
  pub tree : Expr
  pub means : Means other tree
  pub same : take p other ≡ take p text
  pub passes : Passes other 0 ts p
  pub inside : p ≤ length other

pub viable_beyond : (text : List ℕ) (ts : List Token) (p : ℕ) → Passes text 0 ts p → p ≤ length text → Viable ts → Beyond text ts p
viable_beyond text ts p r l v =
    record {
      other = pre ++ more;
      tree = f.1;
      means = record { tokens = ts ++ (leaf unit ∷ closers f.0); passes = passes_on first rest; right = f.2 };
      same = take_at pre more p long;
      passes = first;
      inside = omega (arith, length-append pre more, long);
    }
  where
    f : (n : ℕ) × (e : Expr) × Right (ts ++ (leaf unit ∷ closers n)) e
    f = finish ts (viable_live ts v)

    pre : List ℕ
    pre = take p text

    more : List ℕ
    more = 32 ∷ 49 ∷ parens f.0

    long : length pre ≡ p
    long = length-take-le p text l

    first : Passes (pre ++ more) 0 ts p
    first =
        passes_cut pre (drop p text) (49 ∷ parens f.0) (subst (λ (z : List ℕ). Passes z 0 ts p) (sym (take-append-drop p text)) r)
        (omega (arith, long))

    rest : Passes (pre ++ more) p (leaf unit ∷ closers f.0) (length (pre ++ more))
    rest = subst (λ (z : ℕ). Passes (pre ++ more) z (leaf unit ∷ closers f.0) (length (pre ++ more))) long (tail_passes f.0 pre)

pub beyond_viable : (text : List ℕ) (ts : List Token) (p : ℕ) → Beyond text ts p → Viable ts
beyond_viable text ts p b =
    let k = split b.passes b.means.passes b.inside in
    record { rest = k.more; tree = b.tree; right = subst (λ (z : List Token). Right z b.tree) k.joins b.means.right }
