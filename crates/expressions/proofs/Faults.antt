-- What the pass finds is the first fault of the text, and where it comes to the end nothing is wrong.
use mathlib.Core.Path.{◌≡◌, refl, sym, ap, ◌∙◌, subst}
use mathlib.Core.Logic.{◌⊎◌, inl, inr, ⊎_elim}
use mathlib.Core.Bool.{Bool, true, false, cond}
use mathlib.Core.List.{List, [], ◌∷◌, ◌++◌, append-nil, append_assoc}
use Prim.Native.Nat.{ℕ, zero, suc, ◌+◌, ◌≤◌, ◌<◌}
use native.Mathlib.Nat.{le_refl}
use native.Mathlib.Decide.{dec_lt}
use native.Mathlib.Omega.{arith}
use lib.ListN.{length}
use lib.Dec.{leb}
use borrow.Author.Tests.{leb-false}
use Rattle.expressions.specs.Expressions.{Expr}
use Rattle.expressions.specs.Grammar.{Leaf, Token, Right, Viable}
use Rattle.expressions.specs.Grammar.Leaf.{letter, unit, void}
use Rattle.expressions.specs.Grammar.Token.{leaf, mark, bar, open', close'}
use Rattle.expressions.specs.Texts.{item_at, Passes, Means, events, opens, shuts, Wrong, FirstOf, FirstFault}
use Rattle.expressions.specs.Texts.Item.{token, bad}
use Rattle.expressions.specs.Texts.Wrong.{misplaced, unknown, unfinished, too_many, too_deep}
use Rattle.expressions.specs.Scan.{Phase, turn, scan, Stops, Here, Comes, Faults}
use Rattle.expressions.specs.Scan.Phase.{going, halted}
use Rattle.expressions.specs.Scan.Stops.{no_mark, no_bar, no_close, none_open}
use Rattle.expressions.specs.Scan.Here.{bad_here, end_here, stop_here, many_here, deep_here}
use Rattle.expressions.proofs.Machine.{Alts, Seqs, Frame, Machine, next, run, run_append, start, IsTree, Live, right_runs, runs_right, live_viable, viable_live, run_live, join_alt, join_seq, unambiguous}
use Rattle.expressions.proofs.Machine.Facs.{no_fac, facs}
use Rattle.expressions.proofs.Machine.Frame.{frame}
use Rattle.expressions.proofs.Machine.Machine.{at}
use Rattle.expressions.proofs.Passing.{passes_end, gap_token, bad_token, gap_bad, token_same, split, none_here, First, first_of}
use Rattle.expressions.proofs.Passing.First.{first_gap, first_token}

-- ---- the pass is the machine without its trees

data Like : Machine → Phase → Type 0 where
  like_need : {a : Alts} {s : Seqs} {k : List Frame} {d u : ℕ} → length k ≡ d → Like (at a s no_fac k) (going true d u)
  like_done : {a : Alts} {s : Seqs} {f : Expr} {k : List Frame} {d u : ℕ} → length k ≡ d → Like (at a s (facs f) k) (going false d u)
  like_halted : {m : Machine} → Like m halted

cond_like : (m : Machine) (t : Bool) (p : Phase) → Like m p → Like m (cond t halted p)
cond_like m true p l = like_halted
cond_like m false p l = l

like_turn : (t : Token) {m : Machine} {p : Phase} → Like m p → Like (next t m) (turn t p)
like_turn t like_halted = like_halted
like_turn (leaf (letter a)) (like_need {u = u} e) = cond_like _ (leb 64 u) _ (like_done e)
like_turn (leaf (letter a)) (like_done {u = u} e) = cond_like _ (leb 64 u) _ (like_done e)
like_turn (leaf unit) (like_need e) = like_done e
like_turn (leaf unit) (like_done e) = like_done e
like_turn (leaf void) (like_need e) = like_done e
like_turn (leaf void) (like_done e) = like_done e
like_turn (mark m) (like_need e) = like_halted
like_turn (mark m) (like_done e) = like_done e
like_turn bar (like_need e) = like_halted
like_turn bar (like_done e) = like_need e
like_turn open' (like_need {d = d} e) = cond_like _ (leb 32 d) _ (like_need (ap suc e))
like_turn open' (like_done {d = d} e) = cond_like _ (leb 32 d) _ (like_need (ap suc e))
like_turn close' (like_need e) = like_halted
like_turn close' (like_done {d = zero} e) = like_halted
like_turn close' (like_done {k = []} {d = suc d} e) = absurd (omega arith)
like_turn close' (like_done {k = frame b t ∷ k} {d = suc d} e) = like_done {k = k} {d = d} (omega arith)

like_scan : (ts : List Token) {m : Machine} {p : Phase} → Like m p → Like (run ts m) (scan ts p)
like_scan [] l = l
like_scan (t ∷ ts) l = like_scan ts (like_turn t l)

pub scan_append : (us vs : List Token) (p : Phase) → scan (us ++ vs) p ≡ scan vs (scan us p)
scan_append [] vs p = refl
scan_append (t ∷ us) vs p = scan_append us vs (turn t p)

-- ---- counts

data Goes : Phase → Type 0 where
  goes : {n : Bool} {d u : ℕ} → Goes (going n d u)

scan_halted : (ts : List Token) → scan ts halted ≡ halted
scan_halted [] = refl
scan_halted (t ∷ ts) = scan_halted ts

halted_goes : {p : Phase} → p ≡ halted → Goes p → ⊥
halted_goes e g = no_goes (subst Goes e g)
  where
    no_goes : Goes halted → ⊥
    no_goes = elim [ ]

-- the states taken, and the parentheses open
record Counted (ts : List Token) (d u d' u' : ℕ) : Type 0 where
  used : u' ≡ u + events ts
  depth : d + opens ts ≡ d' + shuts ts

no_scan : (ts : List Token) {n : Bool} {d u : ℕ} → scan ts halted ≡ going n d u → ⊥
no_scan ts {n} {d} {u} e = halted_goes (scan_halted ts) (subst Goes (sym e) goes)

counted : (ts : List Token) (n : Bool) (d u : ℕ) {n' : Bool} {d' u' : ℕ} → scan ts (going n d u) ≡ going n' d' u' → Counted ts d u d' u'
unfolding events opens shuts
counted [] n d u {n'} {d'} {u'} e = record { used = let z : u ≡ u' = cc in omega arith; depth = let z : d ≡ d' = cc in omega arith }
counted (leaf (letter a) ∷ ts) n d u {n'} {d'} {u'} e = go (leb 64 u) (λ h. counted ts false d (suc u) h) e
  where
    go : (t : Bool) → (scan ts (going false d (suc u)) ≡ going n' d' u' → Counted ts d (suc u) d' u')
        → scan ts (cond t halted (going false d (suc u))) ≡ going n' d' u' → Counted (leaf (letter a) ∷ ts) d u d' u'
    go true f h = absurd (no_scan ts h)
    go false f h = let r = f h in record { used = omega arith; depth = r.depth }
counted (leaf unit ∷ ts) n d u e = let r = counted ts false d u e in record { used = r.used; depth = r.depth }
counted (leaf void ∷ ts) n d u e = let r = counted ts false d u e in record { used = r.used; depth = r.depth }
counted (mark m ∷ ts) true d u e = absurd (no_scan ts e)
counted (mark m ∷ ts) false d u e = let r = counted ts false d u e in record { used = r.used; depth = r.depth }
counted (bar ∷ ts) true d u e = absurd (no_scan ts e)
counted (bar ∷ ts) false d u e = let r = counted ts true d u e in record { used = r.used; depth = r.depth }
counted (open' ∷ ts) n d u {n'} {d'} {u'} e = go (leb 32 d) (λ h. counted ts true (suc d) u h) e
  where
    go : (t : Bool) → (scan ts (going true (suc d) u) ≡ going n' d' u' → Counted ts (suc d) u d' u')
        → scan ts (cond t halted (going true (suc d) u)) ≡ going n' d' u' → Counted (open' ∷ ts) d u d' u'
    go true f h = absurd (no_scan ts h)
    go false f h = let r = f h in record { used = r.used; depth = omega (arith, r.depth) }
counted (close' ∷ ts) true d u e = absurd (no_scan ts e)
counted (close' ∷ ts) false zero u e = absurd (no_scan ts e)
counted (close' ∷ ts) false (suc d) u e = let r = counted ts false d u e in record { used = r.used; depth = omega (arith, r.depth) }

-- ---- where the pass has come, and what is wrong there

module _ (text : List ℕ) (taken : ℕ) {q : ℕ} {n : Bool} {d u : ℕ} {ts : List Token} (c : Comes text 0 true 0 taken q n d u ts) where
  like_here : Like (run ts start) (going n d u)
  like_here = subst (Like (run ts start)) c.scans (like_scan ts (like_need refl))

  -- a token that stops the pass is misplaced
  stop_dead : (t : Token) {m : Machine} {k : Bool} {x y : ℕ} → Like m (going k x y) → Stops t k x → Live (next t m) → ⊥
  stop_dead (leaf x) w s l = elim s [ ]
  stop_dead (mark m) (like_done e) s l = elim s [ ]
  stop_dead bar (like_done e) s l = elim s [ ]
  stop_dead open' w s l = elim s [ ]
  stop_dead (mark m) (like_need e) no_mark l = l
  stop_dead bar (like_need e) no_bar l = l
  stop_dead close' (like_need e) no_close l = l
  stop_dead close' (like_done {k = []} e) none_open l = l
  stop_dead close' (like_done {k = b ∷ k} e) none_open l = omega arith

  -- a token that does not is not
  leaf_live : (l : Leaf) {m : Machine} {k : Bool} {x y : ℕ} → Like m (going k x y) → Live (next (leaf l) m)
  leaf_live l (like_need e) = tt
  leaf_live l (like_done e) = tt

  open_live : {m : Machine} {k : Bool} {x y : ℕ} → Like m (going k x y) → Live (next open' m)
  open_live (like_need e) = tt
  open_live (like_done e) = tt

  next_run : (t : Token) → run (ts ++ (t ∷ [])) start ≡ next t (run ts start)
  next_run t = run_append ts (t ∷ []) start

  -- unfinished
  tree_ends : {m : Machine} {k : Bool} {x y : ℕ} (e : Expr) → Like m (going k x y) → IsTree m e → (k ≡ true) ⊎ (0 < x) → ⊥
  tree_ends w (like_need e) t h = t
  tree_ends w (like_done {k = []} e) t h = ⊎_elim (λ j. mathlib.Core.Bool.false≢true j) (λ j. omega arith) h
  tree_ends w (like_done {k = b ∷ k} e) t h = t

  pub wrong_here : {number : ℕ} → Here text q n d u number → Wrong text taken number q
  wrong_here (bad_here l e) = unknown c.passes l e
  wrong_here (end_here l h) =
      subst (λ (x : ℕ). Wrong text taken 30 x) (sym l)
      (unfinished (subst (λ (x : ℕ). Passes text 0 ts x) l c.passes) (λ e r. tree_ends e like_here (right_runs r) h))
  wrong_here (stop_here {t = t} l e s) = misplaced c.passes l e (λ v. stop_dead t like_here s (subst Live (next_run t) (viable_live _ v)))
  wrong_here (many_here l e h) = too_many c.passes l e (omega (arith, (counted ts true 0 taken c.scans).used))
  wrong_here (deep_here l e h) = too_deep c.passes l e (omega (arith, (counted ts true 0 taken c.scans).depth))

  -- ---- nothing is wrong before

  like_live : {m : Machine} {k : Bool} {x y : ℕ} → Like m (going k x y) → Live m
  like_live (like_need e) = tt
  like_live (like_done e) = tt

  prefix_live : (us vs : List Token) → ts ≡ us ++ vs → Live (run us start)
  prefix_live us vs e =
      run_live vs (run us start) (subst Live (run_append us vs start) (subst (λ (x : List Token). Live (run x start)) e (like_live like_here)))

  prefix_scans : (us : List Token) (t : Token) (vs : List Token) → ts ≡ us ++ (t ∷ vs) → scan vs (turn t (scan us (going true 0 taken))) ≡ going n d u
  prefix_scans us t vs e = sym (scan_append us (t ∷ vs) (going true 0 taken)) ∙ ap (λ (x : List Token). scan x (going true 0 taken)) (sym e) ∙ c.scans

  many_not : (us : List Token) (a : ℕ) (vs : List Token) → ts ≡ us ++ (leaf (letter a) ∷ vs) → 64 ≤ taken + events us → ⊥
  many_not us a vs e l = go (scan us (going true 0 taken)) refl (prefix_scans us (leaf (letter a)) vs e)
    where
      at_64 : (t : Bool) (y : ℕ) → leb 64 y ≡ t → 64 ≤ y → (x : ℕ) → scan vs (cond t halted (going false x (suc y))) ≡ going n d u → ⊥
      at_64 true y j h x k = no_scan vs k
      at_64 false y j h x k = omega (arith, leb-false 64 y j)

      go : (p : Phase) → scan us (going true 0 taken) ≡ p → scan vs (turn (leaf (letter a)) p) ≡ going n d u → ⊥
      go halted j k = no_scan vs k
      go (going m x y) j k = at_64 (leb 64 y) y refl (omega (arith, (counted us true 0 taken j).used)) x k

  deep_not : (us : List Token) (vs : List Token) → ts ≡ us ++ (open' ∷ vs) → 32 + shuts us ≤ opens us → ⊥
  deep_not us vs e l = go (scan us (going true 0 taken)) refl (prefix_scans us open' vs e)
    where
      at_32 : (t : Bool) (x : ℕ) → leb 32 x ≡ t → 32 ≤ x → (y : ℕ) → scan vs (cond t halted (going true (suc x) y)) ≡ going n d u → ⊥
      at_32 true x j h y k = no_scan vs k
      at_32 false x j h y k = omega (arith, leb-false 32 x j)

      go : (p : Phase) → scan us (going true 0 taken) ≡ p → scan vs (turn open' p) ≡ going n d u → ⊥
      go halted j k = no_scan vs k
      go (going m x y) j k = at_32 (leb 32 x) x refl (omega (arith, (counted us true 0 taken j).depth)) y k

  -- the token at an earlier place is the next of the tokens passed
  goes_on : {us : List Token} {p : ℕ} {t : Token} → Passes text 0 us p → item_at text p ≡ token t → p < q → (vs : List Token) × (ts ≡ us ++ (t ∷ vs))
  goes_on {us} {p} {t} r e l = let k = split r c.passes (omega arith) in go k.more k.joins (first_of k.passes l)
    where
      go : (xs : List Token) → ts ≡ us ++ xs → First text p xs → (vs : List Token) × (ts ≡ us ++ (t ∷ vs))
      go xs j (first_gap h) = absurd (gap_token h e)
      go (t' ∷ xs) j (first_token h) = (xs, subst (λ (y : Token). ts ≡ us ++ (y ∷ xs)) (token_same h e) j)

  not_bad : {us : List Token} {p : ℕ} → Passes text 0 us p → item_at text p ≡ bad → p < q → ⊥
  not_bad {us} {p} r e l = let k = split r c.passes (omega arith) in go k.more (first_of k.passes l)
    where
      go : (xs : List Token) → First text p xs → ⊥
      go xs (first_gap h) = gap_bad h e
      go (t' ∷ xs) (first_token h) = bad_token e h

  pub none_before : {m p : ℕ} → Wrong text taken m p → p < q → ⊥
  none_before (misplaced {ts = us} {t} r h e v) l =
      let k = goes_on r e l in v (live_viable (us ++ (t ∷ [])) (prefix_live (us ++ (t ∷ [])) k.0 (k.1 ∙ sym (append_assoc us (t ∷ []) k.0))))
  none_before (unknown r h e) l = not_bad r e l
  none_before (unfinished r f) l = omega (arith, passes_end (omega arith) c.passes)
  none_before (too_many {ts = us} {a} r h e g) l = let k = goes_on r e l in many_not us a k.0 k.1 g
  none_before (too_deep {ts = us} r h e g) l = let k = goes_on r e l in deep_not us k.0 k.1 g

  -- ---- and 30 is the least at one place

  same_tokens : {us : List Token} {p : ℕ} → Passes text 0 us p → p ≡ q → ts ≡ us
  same_tokens {us} {p} r e =
      let k = split r c.passes (omega arith) in k.joins ∙ ap (λ (x : List Token). us ++ x) (none_here k.passes e) ∙ append-nil us

  wrong_30 : {m p : ℕ} → Wrong text taken m p → 30 ≤ m
  wrong_30 (misplaced r h e v) = omega arith
  wrong_30 (unknown r h e) = omega arith
  wrong_30 (unfinished r f) = omega arith
  wrong_30 (too_many r h e g) = omega arith
  wrong_30 (too_deep r h e g) = omega arith

  not_misplaced : {us : List Token} (t : Token) {p : ℕ} → Passes text 0 us p → p ≡ q → Live (next t (run ts start)) → Viable (us ++ (t ∷ []))
  not_misplaced {us} t r e l =
      live_viable (us ++ (t ∷ [])) (subst (λ (x : List Token). Live (run (x ++ (t ∷ [])) start)) (same_tokens r e) (subst Live (sym (next_run t)) l))

  many_least : {a m p : ℕ} → q < length text → item_at text q ≡ token (leaf (letter a)) → Wrong text taken m p → p ≡ q → 31 ≤ m
  many_least {a} l i (misplaced {t = t} r h e v) j =
      let z : token t ≡ token (leaf (letter a)) = sym e ∙ ap (item_at text) j ∙ i in
      absurd (v (not_misplaced t r j (subst (λ (x : Token). Live (next x (run ts start))) (token_same z refl) (leaf_live (letter a) like_here))))
  many_least l i (unknown r h e) j = absurd (bad_token (sym (ap (item_at text) j) ∙ e) i)
  many_least l i (unfinished r f) j = omega arith
  many_least l i (too_many r h e g) j = omega arith
  many_least l i (too_deep r h e g) j = omega arith

  deep_least : {m p : ℕ} → q < length text → item_at text q ≡ token open' → Wrong text taken m p → p ≡ q → 32 ≤ m
  deep_least l i (misplaced {t = t} r h e v) j =
      let z : token t ≡ token open' = sym e ∙ ap (item_at text) j ∙ i in
      absurd (v (not_misplaced t r j (subst (λ (x : Token). Live (next x (run ts start))) (token_same z refl) (open_live like_here))))
  deep_least l i (unknown r h e) j = absurd (bad_token (sym (ap (item_at text) j) ∙ e) i)
  deep_least l i (unfinished r f) j = omega arith
  deep_least l i (too_many {a = a} r h e g) j =
      let x : token (leaf (letter a)) ≡ token open' = sym e ∙ ap (item_at text) j ∙ i in
      let z : ◌≡◌ {A = ℕ} 0 1 = cc in
      omega arith
  deep_least l i (too_deep r h e g) j = omega arith

  least_here : {number m p : ℕ} → Here text q n d u number → Wrong text taken m p → p ≡ q → number ≤ m
  least_here (bad_here l e) w j = wrong_30 w
  least_here (end_here l h) w j = wrong_30 w
  least_here (stop_here l e s) w j = wrong_30 w
  least_here (many_here l e h) w j = many_least l e w j
  least_here (deep_here l e h) w j = deep_least l e w j

-- what the pass stops at is the first fault
pub first_fault : (text : List ℕ) (taken number place : ℕ) → Faults text 0 true 0 taken number place → FirstFault text taken number place
first_fault text taken number place f = record { wrong = wrong_here text taken f.comes f.fault; least = least }
  where
    least : (m q : ℕ) → Wrong text taken m q → (place < q) ⊎ ((place ≡ q) × (number ≤ m))
    least m q w = go (dec_lt q place) (dec_lt place q)
      where
        go : Dec (q < place) → Dec (place < q) → (place < q) ⊎ ((place ≡ q) × (number ≤ m))
        go (yes l) d = absurd (none_before text taken f.comes w l)
        go (no l) (yes g) = inl g
        go (no l) (no g) = inr (omega arith, least_here text taken f.comes f.fault w (omega arith))

-- there is one first fault
pub one_first : {F : ℕ → ℕ → Type 0} {a p b q : ℕ} → FirstOf F a p → FirstOf F b q → (a ≡ b) × (p ≡ q)
one_first {a = a} {p} {b} {q} f g =
    ⊎_elim
    (λ l. ⊎_elim (λ k. absurd (omega arith)) (λ k. absurd (omega (arith, k.0))) (g.least a p f.wrong))
    (λ l. ⊎_elim (λ k. absurd (omega (arith, l.0))) (λ k. (omega (arith, l.1, k.1), l.0)) (g.least a p f.wrong))
    (f.least b q g.wrong)

tree_of : {m : Machine} {u : ℕ} → Like m (going false 0 u) → (e : Expr) × IsTree m e
tree_of (like_done {a} {s} {f} {k = []} e) = (join_alt a (join_seq s f), refl)
tree_of (like_done {k = b ∷ k} e) = absurd (omega arith)

-- and nothing is wrong
pub faultless : (text : List ℕ) (taken u : ℕ) (ts : List Token) → Comes text 0 true 0 taken (length text) false 0 u ts → (m q : ℕ)
    → Wrong text taken m q → ⊥
faultless text taken u ts c m q (misplaced r h e v) = none_before text taken c (misplaced r h e v) h
faultless text taken u ts c m q (unknown r h e) = none_before text taken c {m = 30} (unknown r h e) h
faultless text taken u ts c m q (unfinished r f) =
    let t = tree_of (like_here text taken c) in f t.0 (subst (λ (x : List Token). Right x t.0) (same_tokens text taken c r refl) (runs_right ts t.1))
faultless text taken u ts c m q (too_many r h e g) = none_before text taken c (too_many r h e g) h
faultless text taken u ts c m q (too_deep r h e g) = none_before text taken c {m = 32} (too_deep r h e g) h

-- a right text has one expression
pub one_meaning : (text : List ℕ) (e f : Expr) → Means text e → Means text f → e ≡ f
one_meaning text e f p q =
    let k = split p.passes q.passes (le_refl _) in
    let j : q.tokens ≡ p.tokens = k.joins ∙ ap (λ (x : List Token). p.tokens ++ x) (none_here k.passes refl) ∙ append-nil p.tokens in
    unambiguous e f p.right (subst (λ (x : List Token). Right x f) j q.right)
