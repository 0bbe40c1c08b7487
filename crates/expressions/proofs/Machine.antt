-- One pass over the tokens, with a stack of open parentheses: it gives every right list its one expression, and it stops exactly at
-- the first token that no right list has there.
use mathlib.Core.Path.{◌≡◌, refl, sym, ap, ◌∙◌, subst}
use mathlib.Core.List.{List, [], ◌∷◌, ◌++◌, append-nil, append_assoc}
use Prim.Native.Nat.{ℕ, zero, suc}
use Rattle.expressions.specs.Expressions.{Expr}
use Rattle.expressions.specs.Expressions.Expr.{one, alt, seq}
use Rattle.expressions.specs.Grammar.{Mark, Token, Level, leaf_of, mark_of, Reads, Right, Viable}
use Rattle.expressions.specs.Grammar.Leaf.{unit}
use Rattle.expressions.specs.Grammar.Token.{leaf, mark, bar, open', close'}
use Rattle.expressions.specs.Grammar.Level.{alternation, sequence, factor}
use Rattle.expressions.specs.Grammar.Reads.{lone, either, single, further, name, marked, group}

-- what stands before
pub data Alts : Type 0 where
  no_alt : Alts
  alts : Expr → Alts

pub data Seqs : Type 0 where
  no_seq : Seqs
  seqs : Expr → Seqs

-- inside one pair of parentheses: the alternatives so far, the sequence so far, and the last factor, if one has come
pub data Facs : Type 0 where
  no_fac : Facs
  facs : Expr → Facs

pub data Frame : Type 0 where
  frame : Alts → Seqs → Frame

-- the innermost frame with its last factor, and the frames of the open parentheses around it; or stopped
pub data Machine : Type 0 where
  at : Alts → Seqs → Facs → List Frame → Machine
  stopped : Machine

abbrev pub join_seq : Seqs → Expr → Expr
join_seq no_seq f = f
join_seq (seqs s) f = seq s f

abbrev pub join_alt : Alts → Expr → Expr
join_alt no_alt s = s
join_alt (alts e) s = alt e s

abbrev pub flush : Seqs → Facs → Seqs
flush s no_fac = s
flush s (facs f) = seqs (join_seq s f)

abbrev pub step_mark : Mark → Alts → Seqs → Facs → List Frame → Machine
step_mark m a s no_fac k = stopped
step_mark m a s (facs f) k = at a s (facs (mark_of m f)) k

abbrev pub step_bar : Alts → Seqs → Facs → List Frame → Machine
step_bar a s no_fac k = stopped
step_bar a s (facs f) k = at (alts (join_alt a (join_seq s f))) no_seq no_fac k

abbrev pub step_close : Alts → Seqs → Facs → List Frame → Machine
step_close a s no_fac k = stopped
step_close a s (facs f) [] = stopped
step_close a s (facs f) (frame b t ∷ k) = at b t (facs (join_alt a (join_seq s f))) k

abbrev pub step : Token → Alts → Seqs → Facs → List Frame → Machine
step (leaf l) a s f k = at a (flush s f) (facs (leaf_of l)) k
step (mark m) a s f k = step_mark m a s f k
step bar a s f k = step_bar a s f k
step open' a s f k = at no_alt no_seq no_fac (frame a (flush s f) ∷ k)
step close' a s f k = step_close a s f k

abbrev pub next : Token → Machine → Machine
next t (at a s f k) = step t a s f k
next t stopped = stopped

abbrev pub run : List Token → Machine → Machine
run [] m = m
run (t ∷ ts) m = run ts (next t m)

pub run_append : (us vs : List Token) (m : Machine) → run (us ++ vs) m ≡ run vs (run us m)
run_append [] vs m = refl
run_append (t ∷ us) vs m = run_append us vs (next t m)

-- ---- what is right runs through

-- how the machine comes through
abbrev Runs : Level → List Token → Expr → Type 0
Runs alternation ts e =
    (k : List Frame) → (a : Alts) × (s : Seqs) × (f : Expr) × (run ts (at no_alt no_seq no_fac k) ≡ at a s (facs f) k) × (join_alt a (join_seq s f) ≡ e)
Runs sequence ts e = (a : Alts) (k : List Frame) → (s : Seqs) × (f : Expr) × (run ts (at a no_seq no_fac k) ≡ at a s (facs f) k) × (join_seq s f ≡ e)
Runs factor ts e = (a : Alts) (s : Seqs) (f : Facs) (k : List Frame) → run ts (at a s f k) ≡ at a (flush s f) (facs e) k

runs : {l : Level} {ts : List Token} {e : Expr} → Reads l ts e → Runs l ts e
runs (lone q) = λ k. let r = runs q no_alt k in (no_alt, r.0, r.1, r.2, r.3)
runs (either {us} {vs} {e} {f} p q) = λ k.
    let l = runs p k in
    let r = runs q (alts e) k in
    let j = run_append us (bar ∷ vs) (at no_alt no_seq no_fac k) ∙ ap (run (bar ∷ vs)) l.3 ∙ ap (λ (x : Expr). run vs (at (alts x) no_seq no_fac k)) l.4 in
    (alts e, r.0, r.1, j ∙ r.2, ap (alt e) r.3)
runs (single {ts} {e} q) = λ a k. (no_seq, e, runs q a no_seq no_fac k, refl)
runs (further {us} {vs} {e} {f} p q) = λ a k.
    let l = runs p a k in
    (seqs e, f, run_append us vs (at a no_seq no_fac k) ∙ ap (run vs) l.2 ∙ runs q a l.0 (facs l.1) k ∙ ap (λ (x : Expr). at a (seqs x) (facs f) k) l.3, refl)
runs (name l) = λ a s f k. refl
runs (marked {ts} {e} q m) = λ a s f k. run_append ts (mark m ∷ []) (at a s f k) ∙ ap (run (mark m ∷ [])) (runs q a s f k)
runs (group {ts} {e} q) = λ a s f k.
    let r = runs q (frame a (flush s f) ∷ k) in
    run_append ts (close' ∷ []) (at no_alt no_seq no_fac (frame a (flush s f) ∷ k)) ∙ ap (run (close' ∷ [])) r.3
    ∙ ap (λ (x : Expr). at a (flush s f) (facs x) k) r.4

-- ---- one list, one expression

-- the expression where the text may end: nothing is open, and a factor has come
abbrev pub IsTree : Machine → Expr → Type 0
IsTree stopped e = ⊥
IsTree (at a s no_fac k) e = ⊥
IsTree (at a s (facs f) (x ∷ k)) e = ⊥
IsTree (at a s (facs f) []) e = join_alt a (join_seq s f) ≡ e

abbrev pub start : Machine
start = at no_alt no_seq no_fac []

pub right_runs : {ts : List Token} {e : Expr} → Right ts e → IsTree (run ts start) e
right_runs {ts} {e} q = let r = runs q [] in subst (λ (m : Machine). IsTree m e) (sym r.3) r.4

tree_one : (m : Machine) (e f : Expr) → IsTree m e → IsTree m f → e ≡ f
tree_one stopped e f p q = absurd p
tree_one (at a s no_fac k) e f p q = absurd p
tree_one (at a s (facs x) (y ∷ k)) e f p q = absurd p
tree_one (at a s (facs x) []) e f p q = sym p ∙ q

-- a right list has one expression
pub unambiguous : {ts : List Token} (e f : Expr) → Right ts e → Right ts f → e ≡ f
unambiguous {ts} e f p q = tree_one (run ts start) e f (right_runs p) (right_runs q)

-- ---- what runs through is right

data Front : Alts → List Token → Type 0 where
  no_front : Front no_alt []
  front : {e : Expr} {us : List Token} (vs : List Token) → Right vs e → us ≡ vs ++ (bar ∷ []) → Front (alts e) us

data Line : Seqs → List Token → Type 0 where
  no_line : Line no_seq []
  line : {e : Expr} {us : List Token} → Reads sequence us e → Line (seqs e) us

data Last : Facs → List Token → Type 0 where
  no_last : Last no_fac []
  last : {e : Expr} {us : List Token} → Reads factor us e → Last (facs e) us

-- the tokens before the innermost frame
data Stack : List Frame → List Token → Type 0 where
  bottom : Stack [] []
  opened : {a : Alts} {s : Seqs} {k : List Frame} {us : List Token} (xs ys zs : List Token) → Stack k xs → Front a ys → Line s zs
      → us ≡ xs ++ (ys ++ (zs ++ (open' ∷ []))) → Stack (frame a s ∷ k) us

-- the tokens read so far, as the machine has them
data Held : Machine → List Token → Type 0 where
  held : {a : Alts} {s : Seqs} {f : Facs} {k : List Frame} {us : List Token} (ws xs ys zs : List Token) → Stack k ws → Front a xs → Line s ys
      → Last f zs → us ≡ ws ++ (xs ++ (ys ++ zs)) → Held (at a s f k) us
  dead : {us : List Token} → Held stopped us

line_factor : {s : Seqs} {f : Expr} {ys zs : List Token} → Line s ys → Reads factor zs f → Reads sequence (ys ++ zs) (join_seq s f)
line_factor no_line q = single q
line_factor (line p) q = further p q

front_line : {a : Alts} {e : Expr} {xs ys : List Token} → Front a xs → Reads sequence ys e → Right (xs ++ ys) (join_alt a e)
front_line no_front q = lone q
front_line {e = e} {ys = ys} (front {e = d} vs p j) q =
    subst (λ (x : List Token). Right x (alt d e)) (sym (append_assoc vs (bar ∷ []) ys) ∙ ap (λ (x : List Token). x ++ ys) (sym j)) (either p q)

flushed : {s : Seqs} {f : Facs} {ys zs : List Token} → Line s ys → Last f zs → Line (flush s f) (ys ++ zs)
flushed {s} {ys = ys} p no_last = subst (Line s) (sym (append-nil ys)) p
flushed p (last q) = line (line_factor p q)

held_step : (t : Token) {m : Machine} {us : List Token} → Held m us → Held (next t m) (us ++ (t ∷ []))
held_step t dead = dead
held_step (leaf l) (held {us = us} ws xs ys zs p q r z e) =
    held {us = us ++ (leaf l ∷ [])} ws xs (ys ++ zs) (leaf l ∷ []) p q (flushed r z) (last (name l)) (rw e (simp append_assoc))
held_step (mark m) (held ws xs ys zs p q r no_last e) = dead
held_step (mark m) (held {us = us} ws xs ys zs p q r (last z) e) =
    held {us = us ++ (mark m ∷ [])} ws xs ys (zs ++ (mark m ∷ [])) p q r (last (marked z m)) (rw e (simp append_assoc))
held_step bar (held ws xs ys zs p q r no_last e) = dead
held_step bar (held {us = us} ws xs ys zs p q r (last z) e) =
    held {us = us ++ (bar ∷ [])} ws (xs ++ (ys ++ zs) ++ (bar ∷ [])) [] [] p
    (front (xs ++ (ys ++ zs)) (front_line q (line_factor r z)) refl) no_line no_last (rw e (simp (append_assoc, append-nil)))
held_step open' (held {us = us} ws xs ys zs p q r z e) =
    held {us = us ++ (open' ∷ [])} (us ++ (open' ∷ [])) [] [] []
    (opened {us = us ++ (open' ∷ [])} ws xs (ys ++ zs) p q (flushed r z) (rw e (simp append_assoc))) no_front no_line no_last
    (sym (append-nil (us ++ (open' ∷ []))))
held_step close' (held ws xs ys zs p q r no_last e) = dead
held_step close' (held ws xs ys zs bottom q r (last z) e) = dead
held_step close' (held {us = us} ws xs ys zs (opened ds bs cs p q' r' e') q r (last z) e) =
    held {us = us ++ (close' ∷ [])} ds bs cs (open' ∷ ((xs ++ (ys ++ zs)) ++ (close' ∷ []))) p q' r' (last (group (front_line q (line_factor r z))))
    (rw (e, e') (simp append_assoc))

held_run : (ts : List Token) {m : Machine} (us : List Token) → Held m us → Held (run ts m) (us ++ ts)
held_run [] {m} us h = subst (Held m) (sym (append-nil us)) h
held_run (t ∷ ts) {m} us h = subst (Held (run ts (next t m))) (append_assoc us (t ∷ []) ts) (held_run ts (us ++ (t ∷ [])) (held_step t h))

held_tree : {m : Machine} {us : List Token} {e : Expr} → Held m us → IsTree m e → Right us e
held_tree dead t = elim t [ ]
held_tree (held ws xs ys zs p q r no_last e) t = absurd t
held_tree (held ws xs ys zs (opened ds bs cs p q' r' e') q r (last z) e) t = absurd t
held_tree (held {us = us} ws xs ys zs bottom q r (last z) e) t =
    subst (Right us) t (rw e (front_line q (line_factor r z)))

held_start : Held start []
held_start = held [] [] [] [] bottom no_front no_line no_last refl

-- the machine comes to an expression exactly where the list is right
pub runs_right : (ts : List Token) {e : Expr} → IsTree (run ts start) e → Right ts e
runs_right ts t = held_tree (held_run ts [] held_start) t

-- ---- a list runs through exactly where some right list begins so

abbrev pub Live : Machine → Type 0
Live stopped = ⊥
Live (at a s f k) = Unit {0}

stopped_run : (ts : List Token) → run ts stopped ≡ stopped
stopped_run [] = refl
stopped_run (t ∷ ts) = stopped_run ts

-- one more factor, and every open parenthesis closed
pub closes : List Frame → List Token
closes [] = []
closes (x ∷ k) = close' ∷ closes k

-- it can be finished so
pub close_all : (k : List Frame) (a : Alts) (s : Seqs) (f : Expr) → (e : Expr) × IsTree (run (closes k) (at a s (facs f) k)) e
unfolding closes
close_all [] a s f = (join_alt a (join_seq s f), refl)
close_all (frame b t ∷ k) a s f = close_all k b t (join_alt a (join_seq s f))

live_viable_at : (ts : List Token) (m : Machine) → run ts start ≡ m → Live m → Viable ts
live_viable_at ts stopped e l = absurd l
live_viable_at ts (at a s f k) e l =
    let r = close_all k a (flush s f) one in
    let j : run (ts ++ (leaf unit ∷ closes k)) start ≡ run (closes k) (at a (flush s f) (facs one) k) = run_append ts (leaf unit ∷ closes k) start
    ∙ ap (run (leaf unit ∷ closes k)) e in
    record {
      rest = leaf unit ∷ closes k;
      tree = r.0;
      right = runs_right (ts ++ (leaf unit ∷ closes k)) (subst (λ (m : Machine). IsTree m r.0) (sym j) r.1);
    }

pub live_viable : (ts : List Token) → Live (run ts start) → Viable ts
live_viable ts l = live_viable_at ts (run ts start) refl l

tree_live : (m : Machine) (e : Expr) → IsTree m e → Live m
tree_live stopped e t = t
tree_live (at a s f k) e t = tt

pub run_live : (ts : List Token) (m : Machine) → Live (run ts m) → Live m
run_live ts stopped l = subst Live (stopped_run ts) l
run_live ts (at a s f k) l = tt

pub viable_live : (ts : List Token) → Viable ts → Live (run ts start)
viable_live ts v =
    run_live v.rest (run ts start) (subst Live (run_append ts v.rest start) (tree_live (run (ts ++ v.rest) start) v.tree (right_runs v.right)))

unfoldable pub closers : ℕ → List Token
closers zero = []
closers (suc n) = close' ∷ closers n

closes_are : (k : List Frame) → (n : ℕ) × (closes k ≡ closers n)
unfolding closes closers
closes_are [] = (0, refl)
closes_are (x ∷ k) = let r = closes_are k in (suc r.0, ap (λ (z : List Token). close' ∷ z) r.1)

-- what runs through is made right by `1` and closing parentheses
pub finish : (ts : List Token) → Live (run ts start) → (n : ℕ) × (e : Expr) × Right (ts ++ (leaf unit ∷ closers n)) e
finish ts l = go (run ts start) refl l
  where
    go : (m : Machine) → run ts start ≡ m → Live m → (n : ℕ) × (e : Expr) × Right (ts ++ (leaf unit ∷ closers n)) e
    go stopped e h = absurd h
    go (at a s f k) e h =
        let r = close_all k a (flush s f) one in
        let c = closes_are k in
        let j : run (ts ++ (leaf unit ∷ closes k)) start ≡ run (closes k) (at a (flush s f) (facs one) k) = run_append ts (leaf unit ∷ closes k) start
        ∙ ap (run (leaf unit ∷ closes k)) e in
        let q : Right (ts ++ (leaf unit ∷ closes k)) r.0 = runs_right (ts ++ (leaf unit ∷ closes k)) (subst (λ (m : Machine). IsTree m r.0) (sym j) r.1) in
        (c.0, r.0, subst (λ (z : List Token). Right (ts ++ (leaf unit ∷ z)) r.0) c.1 q)
