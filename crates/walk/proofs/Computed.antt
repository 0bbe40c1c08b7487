-- A walk that computes: what it gives is the outcome of the walk. Assumes nothing.
use mathlib.Core.Path.{◌≡◌, refl}
use mathlib.Core.Logic.{◌↔◌}
use mathlib.Core.Bool.{Bool, true, false, beq}
use mathlib.Core.List.{List, [], ◌∷◌, ◌++◌}
use mathlib.Core.Option.{Option}
use mathlib.Core.Option.Option.{some}
use Prim.Native.Nat.{ℕ, zero, suc, ◌+◌, ◌/◌, ◌%◌, ◌≤◌, ◌<◌}
use native.Mathlib.Omega.{arith}
use lib.ListN.{length, get_or}
use lib.Dec.{eqb, ltb}
use borrow.Author.Tests.{eqb-true, eqb-false, ltb-true, ltb-false}
use Rattle.pattern.specs.Language.{accepts}
use Rattle.congruence.proofs.Deciding.{closing_decides}
use Rattle.congruence.proofs.Computed.{closing, closing_closes}
use Rattle.verdict.proofs.Flags.{flags_yes, flags_no}
use Rattle.walk.specs.Walk.{Question, Record, lefts_of, rights_of, parents_of, letters_of, candidate, candidates, Position, upcoming, Remains, Implied, Agrees, Moves, Path, Word, Outcome, Ends, Moved, Walk}
use Rattle.walk.specs.Walk.Moves.{skipped}
use Rattle.walk.specs.Walk.Path.{start, further}
use Rattle.walk.specs.Walk.Word.{first, later}
use Rattle.walk.specs.Walk.Outcome.{Same, Different, Full}
use Rattle.walk.specs.Walk.Ends.{different, full}
use Rattle.walk.specs.Walk.Moved.{stay, go}

-- ---- one candidate

pub data Next : Type 0 where
  skips : Next
  keeps : Next
  tells : Next
  fills : Next
  ends : Next

-- by the tests: a candidate is left, its sides close to one set, they agree, there is room
unfoldable pub pick : Bool → Bool → Bool → Bool → Next
pick false equal agree roomy = ends
pick true true agree roomy = skips
pick true false false roomy = tells
pick true false true true = keeps
pick true false true false = fills

-- a set closed by the kept pairs
abbrev closed : List Record → ℕ → ℕ
closed kept set = closing (lefts_of kept) (rights_of kept) set

unfoldable pub next_of : Question → ℕ → List Record → ℕ → Next
next_of Q room kept e =
    let r = candidate Q kept e in
    pick (ltb e (candidates Q kept)) (eqb (closed kept r.left) (closed kept r.right))
    (beq (accepts Q.pattern r.left []) (accepts Q.pattern r.right [])) (ltb (length kept) room)

abbrev at : List Record → ℕ → Position
at kept e = record { kept = kept; examined = e }

abbrev Justified : Question → ℕ → Position → Next → Type 0
Justified Q room p skips = Remains Q p × Implied p.kept (upcoming Q p)
Justified Q room p keeps = Remains Q p × (Implied p.kept (upcoming Q p) → ⊥) × Agrees Q (upcoming Q p) × (length p.kept < room)
Justified Q room p tells = Remains Q p × (Implied p.kept (upcoming Q p) → ⊥) × (Agrees Q (upcoming Q p) → ⊥)
Justified Q room p fills = Remains Q p × (Implied p.kept (upcoming Q p) → ⊥) × Agrees Q (upcoming Q p) × (room ≤ length p.kept)
Justified Q room p ends = Remains Q p → ⊥

-- what the tests say
record Tested (Q : Question) (room : ℕ) (p : Position) (left equal agree roomy : Bool) : Type 0 where
  left_yes : left ≡ true → Remains Q p
  left_no : left ≡ false → Remains Q p → ⊥
  equal_yes : equal ≡ true → Implied p.kept (upcoming Q p)
  equal_no : equal ≡ false → Implied p.kept (upcoming Q p) → ⊥
  agree_yes : agree ≡ true → Agrees Q (upcoming Q p)
  agree_no : agree ≡ false → Agrees Q (upcoming Q p) → ⊥
  roomy_yes : roomy ≡ true → length p.kept < room
  roomy_no : roomy ≡ false → room ≤ length p.kept

picked : {Q : Question} {room : ℕ} {p : Position} (left equal agree roomy : Bool) → Tested Q room p left equal agree roomy
    → Justified Q room p (pick left equal agree roomy)
unfolding pick
picked false equal agree roomy t = t.left_no refl
picked true true agree roomy t = (t.left_yes refl, t.equal_yes refl)
picked true false false roomy t = (t.left_yes refl, t.equal_no refl, t.agree_no refl)
picked true false true true t = (t.left_yes refl, t.equal_no refl, t.agree_yes refl, t.roomy_yes refl)
picked true false true false t = (t.left_yes refl, t.equal_no refl, t.agree_yes refl, t.roomy_no refl)

justified : (Q : Question) (room : ℕ) (kept : List Record) (e : ℕ) → Justified Q room (at kept e) (next_of Q room kept e)
unfolding next_of
justified Q room kept e =
    picked (ltb e (candidates Q kept)) (eqb (closed kept r.left) (closed kept r.right)) (beq s t) (ltb (length kept) room) (record {
      left_yes = ltb-true _ _;
      left_no = λ z h. let g = ltb-false e (candidates Q kept) z in omega arith;
      equal_yes = λ z. decided.1 (eqb-true _ _ z);
      equal_no = λ z h. eqb-false _ _ z (decided.0 h);
      agree_yes = flags_yes s t;
      agree_no = flags_no s t;
      roomy_yes = ltb-true _ _;
      roomy_no = ltb-false _ _;
    })
  where
    r : Record
    r = candidate Q kept e

    s : Bool
    s = accepts Q.pattern r.left []

    t : Bool
    t = accepts Q.pattern r.right []

    decided : Implied kept r ↔ (closed kept r.left ≡ closed kept r.right)
    decided = closing_decides (closing_closes (lefts_of kept) (rights_of kept) r.left) (closing_closes (lefts_of kept) (rights_of kept) r.right)

-- ---- paths

-- at the start; else below the end, the way to the parent, and the letter
unfoldable pub choose : Bool → Bool → Option (List ℕ) → ℕ → Option (List ℕ)
choose true below w a = some []
choose false true (some w) a = some (w ++ (a ∷ []))
choose false true Option.none a = Option.none
choose false false w a = Option.none

unfoldable pub path_to : ℕ → List ℕ → List ℕ → ℕ → Option (List ℕ)
path_to zero parents letters i = Option.none
path_to (suc f) parents letters i = choose (eqb i 0) (ltb i (length parents)) (path_to f parents letters (get_or parents i 0)) (get_or letters i 0)

never : {A B : Type 0} {x : A} → ◌≡◌ {A = Option A} Option.none (some x) → B
never e = absurd (let z : ◌≡◌ {A = ℕ} 0 1 = cc in omega arith)

path_start : (parents letters : List ℕ) (i : ℕ) (w : List ℕ) → i ≡ 0 → [] ≡ w → Path parents letters i w
path_start parents letters i w z e = rw (z, ← e) start

chosen : (parents letters : List ℕ) (i : ℕ) (w : List ℕ) (zeroth below : Bool) (o : Option (List ℕ)) → (zeroth ≡ true → i ≡ 0) → (zeroth ≡ false → i ≡ 0 → ⊥)
    → (below ≡ true → i < length parents) → ((v : List ℕ) → o ≡ some v → Path parents letters (get_or parents i 0) v)
    → choose zeroth below o (get_or letters i 0) ≡ some w → Path parents letters i w
unfolding choose
chosen parents letters i w true below o z n b rest e = path_start parents letters i w (z refl) (cc)
chosen parents letters i w false true (some v) z n b rest e =
    let q : v ++ (get_or letters i 0 ∷ []) ≡ w = cc in
    let f = n refl in
    let l : 0 < i = omega arith in
    rw (← q) (further l (b refl) (rest v refl))
chosen parents letters i w false true Option.none z n b rest e = never e
chosen parents letters i w false false o z n b rest e = never e

path_sound : (f : ℕ) (parents letters : List ℕ) (i : ℕ) (w : List ℕ) → path_to f parents letters i ≡ some w → Path parents letters i w
unfolding path_to
path_sound zero parents letters i w e = never e
path_sound (suc f) parents letters i w e =
    chosen parents letters i w (eqb i 0) (ltb i (length parents)) (path_to f parents letters (get_or parents i 0)) (eqb-true i 0) (eqb-false i 0)
    (ltb-true i (length parents)) (λ v q. path_sound f parents letters (get_or parents i 0) v q) e

unfoldable pub word_to : Question → List Record → ℕ → Option (List ℕ)
word_to Q kept zero = some []
word_to Q kept (suc e) =
    choose false true (path_to (length kept + 1) (parents_of kept) (letters_of kept) (e / Q.pattern.letters)) (e % Q.pattern.letters)

after : (Q : Question) (kept : List Record) (e : ℕ) (w : List ℕ) (o : Option (List ℕ))
    → ((v : List ℕ) → o ≡ some v → Path (parents_of kept) (letters_of kept) (e / Q.pattern.letters) v)
    → choose false true o (e % Q.pattern.letters) ≡ some w → Word Q kept (suc e) w
unfolding choose
after Q kept e w (some v) rest q =
    let z : v ++ (e % Q.pattern.letters ∷ []) ≡ w = cc in
    rw (← z) (later (rest v refl))
after Q kept e w Option.none rest q = never q

word_sound : (Q : Question) (kept : List Record) (e : ℕ) (w : List ℕ) → word_to Q kept e ≡ some w → Word Q kept e w
unfolding word_to
word_sound Q kept zero w q = let z : [] ≡ w = cc in rw (← z) first
word_sound Q kept (suc e) w q =
    after Q kept e w _ (λ v z. path_sound (length kept + 1) (parents_of kept) (letters_of kept) (e / Q.pattern.letters) v z) q

-- ---- the walk

unfoldable pub told : List Record → ℕ → Option (List ℕ) → Option Outcome
told kept e (some w) = some (Different kept (suc e) w)
told kept e Option.none = Option.none

-- from a position whose next candidate is dealt with so, with fuel for so many candidates
unfoldable pub play : ℕ → Next → Question → ℕ → List Record → ℕ → Option Outcome
play zero v Q room kept e = Option.none
play (suc f) skips Q room kept e = play f (next_of Q room kept (suc e)) Q room kept (suc e)
play (suc f) keeps Q room kept e =
    play f (next_of Q room (kept ++ (candidate Q kept e ∷ [])) (suc e)) Q room (kept ++ (candidate Q kept e ∷ [])) (suc e)
play (suc f) tells Q room kept e = told kept e (word_to Q kept e)
play (suc f) fills Q room kept e = some (Full kept (suc e))
play (suc f) ends Q room kept e = some (Same kept e)

unfoldable pub walk : ℕ → Question → ℕ → Option Outcome
walk f Q room = play f (next_of Q room [] 0) Q room [] 0

record Goes (Q : Question) (room : ℕ) (p : Position) (o : Outcome) : Type 0 where
  last : Position
  moved : Moved Q room p last
  finish : Ends Q room last o

told_sound : {Q : Question} {room : ℕ} (kept : List Record) (e : ℕ) (w : Option (List ℕ)) (o : Outcome) → ((v : List ℕ) → w ≡ some v → Word Q kept e v)
    → Justified Q room (at kept e) tells → told kept e w ≡ some o → Ends Q room (at kept e) o
unfolding told
told_sound kept e (some w) o rest j q =
    let z : Different kept (suc e) w ≡ o = cc in
    rw (← z) (different j.0 j.1 j.2 (rest w refl))
told_sound kept e Option.none o rest j q = never q

play_sound : {Q : Question} {room : ℕ} (f : ℕ) (v : Next) (kept : List Record) (e : ℕ) (o : Outcome) → Justified Q room (at kept e) v
    → play f v Q room kept e ≡ some o → Goes Q room (at kept e) o
unfolding play
play_sound zero v kept e o j q = never q
play_sound {Q} {room} (suc f) skips kept e o j q =
    let g = play_sound f (next_of Q room kept (suc e)) kept (suc e) o (justified Q room kept (suc e)) q in
    record { last = g.last; moved = go (skipped j.0 j.1) g.moved; finish = g.finish }
play_sound {Q} {room} (suc f) keeps kept e o j q =
    let more = kept ++ (candidate Q kept e ∷ []) in
    let g = play_sound f (next_of Q room more (suc e)) more (suc e) o (justified Q room more (suc e)) q in
    record { last = g.last; moved = go (Moves.kept j.0 j.1 j.2 j.3) g.moved; finish = g.finish }
play_sound {Q} (suc f) tells kept e o j q =
    record { last = at kept e; moved = stay; finish = told_sound kept e (word_to Q kept e) o (λ v z. word_sound Q kept e v z) j q }
play_sound {Q} {room} (suc f) fills kept e o j q =
    let z : Full kept (suc e) ≡ o = cc in
    record { last = at kept e; moved = stay; finish = rw (← z) (full j.0 j.1 j.2 j.3) }
play_sound {Q} {room} (suc f) ends kept e o j q =
    let z : Same kept e ≡ o = cc in
    record { last = at kept e; moved = stay; finish = rw (← z) (Ends.same j) }

pub walk_computed : (f : ℕ) (Q : Question) (room : ℕ) (o : Outcome) → walk f Q room ≡ some o → Walk Q room o
unfolding walk
walk_computed f Q room o q =
    let g = play_sound f (next_of Q room [] 0) [] 0 o (justified Q room [] 0) q in
    record { last = g.last; moved = g.moved; ends = g.finish }
