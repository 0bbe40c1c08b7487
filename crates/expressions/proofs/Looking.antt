-- What stands next: spaces passed over, runs of capitals and digits, names and signs.
use mathlib.Core.Path.{◌≡◌, refl, sym, ap, ◌∙◌, subst}
use mathlib.Core.Bool.{Bool, true, false, cond}
use mathlib.Core.List.{List, [], ◌∷◌}
use Prim.Native.Nat.{ℕ, zero, suc, ◌+◌, ◌-◌, ◌≤◌, ◌<◌}
use native.Mathlib.Numerals.{add-one}
use native.Mathlib.Decide.{dec_lt, ℕ_discrete}
use native.Mathlib.Omega.{arith}
use lib.Dec.{eqb}
use lib.ListN.{length, get_or, take, drop, length-drop}
use lib.Seq.{drop-cons}
use borrow.Author.Tests.{eq-eqb, ne_eqb}
use Rattle.std.specs.Prelude.{bytes_eq, take_while}
use Rattle.std.specs.List.{prefix_len}
use Rattle.std.proofs.lemmas.List.Folds.{length-prefix_len}
use Rattle.std.proofs.lemmas.List.Sums.{prefix_len-le-length, prefix_len-drop_yes, prefix_len-drop_no, prefix_len-drop_all}
use Rattle.text.specs.Text.{word}
use Rattle.events.specs.Events.{event_name}
use Rattle.expressions.specs.Grammar.Leaf.{letter}
use Rattle.expressions.specs.Grammar.Token.{leaf}
use Rattle.expressions.specs.Texts.{Item, in_name, run_length, look_up, name_item, sign_item, item_of, size_of, item_at, past_at, Passes}
use Rattle.expressions.specs.Texts.Item.{token, bad}
use Rattle.expressions.specs.Texts.Passes.{here, space}
use Rattle.expressions.specs.Pieces.{At, Coded, Peeked, Skipped, RunEnd}
use Rattle.expressions.specs.declared.Token.{Token as Seen}
use Rattle.expressions.specs.declared.Token.TheVariants.{Event}
use Rattle.expressions.proofs.Passing.{passes_on}

-- ---- what the bytes begin with

name_first : (b : ℕ) (bs : List ℕ) → in_name b ≡ true
    → (item_of (b ∷ bs) ≡ name_item (take (run_length (b ∷ bs)) (b ∷ bs))) × (size_of (b ∷ bs) ≡ run_length (b ∷ bs))
unfolding item_of size_of
name_first b bs n = (rw n, rw n)

sign_first : (b : ℕ) (bs : List ℕ) → in_name b ≡ false → (item_of (b ∷ bs) ≡ sign_item b) × (size_of (b ∷ bs) ≡ 1)
unfolding item_of size_of
sign_first b bs n = (rw n, rw n)

-- ---- what stands at a place

module _ (text : List ℕ) (i : ℕ) (inside : i < length text) where
  cons : drop i text ≡ get_or text i 0 ∷ drop (suc i) text
  cons = drop-cons text i 0 inside

  -- a name, or what is none
  name_at : in_name (get_or text i 0) ≡ true
      → (item_at text i ≡ name_item (take (run_length (drop i text)) (drop i text))) × (past_at text i ≡ i + run_length (drop i text))
  unfolding item_at past_at
  name_at n = let k = name_first (get_or text i 0) (drop (suc i) text) n in (rw cons k.0, rw cons (ap (λ (z : ℕ). i + z) k.1))

  sign_at : in_name (get_or text i 0) ≡ false → (item_at text i ≡ sign_item (get_or text i 0)) × (past_at text i ≡ i + 1)
  unfolding item_at past_at
  sign_at n = let k = sign_first (get_or text i 0) (drop (suc i) text) n in (rw cons k.0, rw cons (ap (λ (z : ℕ). i + z) k.1))

  -- a space
  pub skip_on : get_or text i 0 ≡ 32 → Passes text i [] (i + 1)
  unfolding sign_item
  skip_on e =
      let k = sign_at (rw e refl) in
      space inside (k.0 ∙ rw e) (subst (λ (z : ℕ). Passes text z [] (i + 1)) (sym k.1) here)

  -- what is looked at there
  looked : (at past : ℕ) (t : Seen) {thing : Item} → Skipped text at i → item_at text i ≡ thing → Coded thing t → past ≡ past_at text i
      → Peeked text at (record { token = t; place = i; past = past })
  looked at past t k e q h =
      record {
        gaps = k.gaps;
        looks = record {
          inside = k.inside;
          end = λ j. absurd (q.not_end j);
          stands = λ f. record { inside = inside; item = e ∙ q.item; beyond = h };
        };
      }

  pub peek_name : (at e : ℕ) (t : Seen) → Skipped text at i → in_name (get_or text i 0) ≡ true → RunEnd text i e
      → Coded (name_item (take (e - i) (drop i text))) t → Peeked text at (record { token = t; place = i; past = e })
  peek_name at e t k n r q =
      let h = name_at n in
      let long : e - i ≡ run_length (drop i text) = omega (arith, r.is) in
      looked at e t k (h.0 ∙ ap (λ (z : ℕ). name_item (take z (drop i text))) (sym long)) q (r.is ∙ sym h.1)

  pub peek_sign : (at : ℕ) (t : Seen) → Skipped text at i → in_name (get_or text i 0) ≡ false → Coded (sign_item (get_or text i 0)) t
      → Peeked text at (record { token = t; place = i; past = i + 1 })
  peek_sign at t k n q = let h = sign_at n in looked at (i + 1) t k h.0 q (sym h.1)

-- ---- spaces, and runs of capitals and digits

abbrev is_space : ℕ → Bool
is_space b = eqb b 32

-- n spaces from a place on, and no more
abbrev Spaces : List ℕ → ℕ → ℕ → Type 0
Spaces text i n = Passes text i [] (i + n) × (i + n < length text → get_or text (i + n) 0 ≡ 32 → ⊥)

spaces_none : (text : List ℕ) (i : ℕ) → prefix_len is_space (drop i text) ≡ 0 → Spaces text i 0
spaces_none text i e =
    let same : i ≡ i + 0 = omega arith in
    subst (λ (z : ℕ). Passes text i [] z × (z < length text → get_or text z 0 ≡ 32 → ⊥)) same
    (here, λ l h. omega (arith, prefix_len-drop_yes is_space text i 0 l (eq-eqb _ 32 h), e))

spaces_more : (text : List ℕ) (i n : ℕ) → prefix_len is_space (drop i text) ≡ suc n → (prefix_len is_space (drop (i + 1) text) ≡ n → Spaces text (i + 1) n)
    → Spaces text i (suc n)
spaces_more text i n e further = go (dec_lt i (length text)) (ℕ_discrete (get_or text i 0) 32)
  where
    same : i + 1 + n ≡ i + suc n
    same = omega arith

    go : Dec (i < length text) → Dec (get_or text i 0 ≡ 32) → Spaces text i (suc n)
    go (yes l) (yes h) =
        let (gaps, stops) = further (omega (arith, prefix_len-drop_yes is_space text i 0 l (eq-eqb _ 32 h), e)) in
        subst (λ (z : ℕ). Passes text i [] z × (z < length text → get_or text z 0 ≡ 32 → ⊥)) same (passes_on (skip_on text i l h) gaps, stops)
    go (yes l) (no h) = absurd (omega (arith, prefix_len-drop_no is_space text i 0 l (ne_eqb _ 32 h), e))
    go (no l) h = absurd (omega (arith, prefix_len-drop_all is_space text i (omega arith), e))

module _ (text : List ℕ) where
  spaces : (n i : ℕ) → prefix_len is_space (drop i text) ≡ n → Spaces text i n
  spaces zero i e = spaces_none text i e
  spaces (suc n) i e = spaces_more text i n e (spaces n (i + 1))

  pub skipped : (at n : ℕ) → at ≤ length text → n ≡ length (take_while is_space (drop at text)) → Skipped text at (at + n)
  skipped at n l e =
      let same : at + prefix_len is_space (drop at text) ≡ at + n = omega (arith, length-prefix_len is_space (drop at text), e) in
      let (gaps, stops) = subst (λ (z : ℕ). Passes text at [] z × (z < length text → get_or text z 0 ≡ 32 → ⊥)) same (spaces _ at refl) in
      record {
        gaps = gaps;
        inside = omega (arith, prefix_len-le-length is_space (drop at text), length-drop at text, l, same);
        stops = stops;
      }

run_prefix : (bs : List ℕ) → run_length bs ≡ prefix_len in_name bs
unfolding run_length
run_prefix [] = refl
run_prefix (b ∷ bs) = let more : suc (run_length bs) ≡ 1 + prefix_len in_name bs = omega (arith, run_prefix bs) in ap (λ (z : ℕ). cond (in_name b) z 0) more

pub run_ended : (text : List ℕ) (at n : ℕ) → at ≤ length text → n ≡ length (take_while in_name (drop at text)) → RunEnd text at (at + n)
run_ended text at n l e =
    let bs = drop at text in
    record {
      is = omega (arith, length-prefix_len in_name bs, run_prefix bs, e);
      inside = omega (arith, length-prefix_len in_name bs, prefix_len-le-length in_name bs, length-drop at text, e);
    }

-- ---- names

-- a run that is a name has its letter, and the letters before it have other names
module _ (run : List ℕ) (a : ℕ) (below : a < 32) (so_far : look_up run 32 0 ≡ look_up run (32 - a) a) where
  step : look_up run (32 - a) a ≡ cond (bytes_eq run (event_name a)) (token (leaf (letter a))) (look_up run (32 - (a + 1)) (a + 1))
  unfolding look_up
  step = let j : 32 - a ≡ suc (32 - (a + 1)) = omega arith in rw (j, add-one)

  pub found : bytes_eq run (event_name a) ≡ true → Coded (look_up run 32 0) (Event a)
  found e = record { item = so_far ∙ step ∙ rw e; not_end = λ j. cc }

  pub passed : bytes_eq run (event_name a) ≡ false → look_up run 32 0 ≡ look_up run (32 - (a + 1)) (a + 1)
  passed e = so_far ∙ step ∙ rw e

-- ---- a letter that is read is below 32

look_up_below : (run : List ℕ) (n a b : ℕ) → look_up run n a ≡ token (leaf (letter b)) → b < a + n
unfolding look_up
look_up_below run zero a b e = absurd (let z : ◌≡◌ {A = ℕ} 0 1 = cc in omega arith)
look_up_below run (suc n) a b e = go (bytes_eq run (event_name a)) (look_up_below run n (suc a) b) e
  where
    go : (t : Bool) → (look_up run n (suc a) ≡ token (leaf (letter b)) → b < suc a + n)
        → cond t (token (leaf (letter a))) (look_up run n (suc a)) ≡ token (leaf (letter b)) → b < a + suc n
    go true f h = let z : a ≡ b = cc in omega arith
    go false f h = omega (arith, f h)

-- what is none of these at all
other : {i : Item} {b : ℕ} (t : Bool) {j : Item} → (i ≡ token (leaf (letter b)) → ⊥) → cond t i j ≡ token (leaf (letter b)) → j ≡ token (leaf (letter b))
other true f e = absurd (f e)
other false f e = e

name_below : (run : List ℕ) (b : ℕ) → name_item run ≡ token (leaf (letter b)) → b < 32
unfolding name_item
name_below run b e =
    look_up_below run 32 0 b
    (other (bytes_eq run (word "0")) (λ h. cc) (other (bytes_eq run (word "1")) (λ h. cc) e))

sign_none : (c b : ℕ) → sign_item c ≡ token (leaf (letter b)) → ⊥
unfolding sign_item
sign_none c b e =
    let z = other (eqb c 41) {j = bad} (λ h. cc)
    (other (eqb c 40) (λ h. cc)
    (other (eqb c 63) (λ h. cc) (other (eqb c 43) (λ h. cc) (other (eqb c 42) (λ h. cc) (other (eqb c 124) (λ h. cc) (other (eqb c 32) (λ h. cc) e))))))
    in
    cc

pub letter_below : {text : List ℕ} {place past a : ℕ} → At text place past (token (leaf (letter a))) → a < 32
letter_below {text} {place} {a = a} k = go (in_name (get_or text place 0)) refl
  where
    go : (t : Bool) → in_name (get_or text place 0) ≡ t → a < 32
    go true n = name_below _ a (sym (name_at text place k.inside n).0 ∙ k.item)
    go false n = absurd (sign_none _ a (sym (sign_at text place k.inside n).0 ∙ k.item))
