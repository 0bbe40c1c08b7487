-- Values put into a list from a place on: what that means, one run after another, and a loop's record of what is left. Assumes nothing.
use mathlib.Core.Path.{◌≡◌, refl, sym, ap, ◌∙◌}
use mathlib.Core.List.{List, [], ◌∷◌, ◌++◌, append_assoc, append-nil}
use Prim.Native.Nat.{ℕ, ◌+◌, ◌<◌, ◌≤◌}
use native.Mathlib.Nat.{add-zero}
use native.Mathlib.Numerals.{add-one}
use native.Mathlib.Omega.{arith}
use lib.ListN.{length, take, drop, get_or, set, length-append, length-drop, take-append-drop}
use lib.Seq.{length-take-le, take_at, drop_at, drop-drop, drop-cons, set_split, append_snoc}
use Rattle.lent.specs.Lent.{lay, lay_at, Put}
use Rattle.lent.proofs.Laying.{lay_at_start, lay_at_parts}

-- ---- what Put means

module _ {old : List ℕ} {at : ℕ} {a : List ℕ} {next : ℕ} {new : List ℕ} (p : Put old at a next new) where
  front : List ℕ
  front = take at old ++ a

  at_length : length (take at old) ≡ at
  at_length = length-take-le at old (omega (arith, p.ends, p.within))

  front_length : length front ≡ next
  unfolding front
  front_length = length-append (take at old) a ∙ omega (arith, at_length, p.ends)

  -- what stood before them, the values, and what stood after them
  pub put_parts : new ≡ take at old ++ a ++ drop next old
  put_parts = p.laid ∙ lay_at_parts at a old ∙ rw p.ends

  pub put_length : length new ≡ length old
  unfolding front
  put_length =
      ap length put_parts ∙ length-append front (drop next old)
      ∙ omega (arith, front_length, length-drop next old, p.within)

  -- what stands up to their end
  pub put_ending : take next new ≡ take at old ++ a
  unfolding front
  put_ending = ap (take next) put_parts ∙ take_at front (drop next old) next front_length

  -- what stands after them is as it was
  pub put_back : drop next new ≡ drop next old
  unfolding front
  put_back = ap (drop next) put_parts ∙ drop_at front (drop next old) next front_length

  -- what stands before them is as it was
  pub put_front : take at new ≡ take at old
  put_front = ap (take at) (put_parts ∙ append_assoc (take at old) a (drop next old)) ∙ take_at (take at old) (a ++ drop next old) at at_length

  -- the values are found where they were put
  pub put_found : take (length a) (drop at new) ≡ a
  put_found =
      ap (λ (l : List ℕ). take (length a) (drop at l)) (put_parts ∙ append_assoc (take at old) a (drop next old))
      ∙ ap (take (length a)) (drop_at (take at old) (a ++ drop next old) at at_length)
      ∙ take_at a (drop next old) (length a) refl

-- at the start of a list they lie over it
pub put_laid : {old a : List ℕ} {next : ℕ} {new : List ℕ} → Put old 0 a next new → new ≡ lay a old
put_laid {old} {a} p = p.laid ∙ lay_at_start a old

-- two results of putting the same values at the same place are equal
pub put_determined : {old : List ℕ} {at : ℕ} {a : List ℕ} {next next' : ℕ} {new new' : List ℕ}
    → Put old at a next new → Put old at a next' new' → (next ≡ next') × (new ≡ new')
put_determined p q = (cc, cc)

-- ---- one run, and one after another

-- from the parts
put_made : (old : List ℕ) (at : ℕ) (a : List ℕ) {next : ℕ} {new : List ℕ} → next ≡ at + length a → next ≤ length old → new ≡ take at old ++ a ++ drop next old
    → Put old at a next new
put_made old at a e h parts = record { ends = e; within = h; laid = parts ∙ rw e (sym (lay_at_parts at a old)) }

pub put_none : (old : List ℕ) (at : ℕ) → at ≤ length old → Put old at [] at old
put_none old at h =
    put_made old at [] (sym (add-zero at)) h (sym (ap (λ (l : List ℕ). l ++ drop at old) (append-nil (take at old)) ∙ take-append-drop at old))

pub put_one : (old : List ℕ) (at b : ℕ) → at < length old → Put old at (b ∷ []) (at + 1) (set old at b)
put_one old at b h = put_made old at (b ∷ []) refl (omega arith) (set_split old at b h ∙ rw (append_snoc, add-one))

-- a copy of them laid over as many
pub put_copied : (old copied a : List ℕ) (at n : ℕ) → copied ≡ a → n ≡ length a → at + length a ≤ length old
    → Put old at a (at + length a) (take at old ++ (copied ++ drop n (drop at old)))
unfolding lay_at lay
put_copied old copied a at n c e h = record { ends = refl; within = h; laid = rw (c, e) }

pub put_as : {old : List ℕ} {at : ℕ} {a b : List ℕ} {next : ℕ} {new : List ℕ} → Put old at a next new → a ≡ b → Put old at b next new
put_as p e = rw e at p

pub put_then : {old : List ℕ} {at : ℕ} {a : List ℕ} {place : ℕ} {mid b : List ℕ} {next : ℕ} {new : List ℕ}
    → Put old at a place mid → Put mid place b next new → Put old at (a ++ b) next new
put_then {old} {at} {a} {place} {mid} {b} {next} {new} p q =
    put_made old at (a ++ b) (omega (arith, p.ends, q.ends, length-append a b)) (omega (arith, q.within, put_length p))
    (put_parts q
    ∙ ap (λ (l : List ℕ). l ++ b ++ drop next mid) (put_ending p)
    ∙ ap (λ (l : List ℕ). take at old ++ a ++ b ++ l) beyond
    ∙ ap (λ (l : List ℕ). l ++ drop next old) (append_assoc (take at old) a b))
  where
    beyond : drop next mid ≡ drop next old
    beyond = rw q.ends (sym (drop-drop (length b) place mid) ∙ ap (drop (length b)) (put_back p) ∙ drop-drop (length b) place old)

-- ---- a loop that puts one thing after another

-- of all that is to be put into old from at on, rest is left, to be put into out from place on
pub record Left (old : List ℕ) (at : ℕ) (all out : List ℕ) (place : ℕ) (rest : List ℕ) : Type 0 where
  pub done : List ℕ
  pub put : Put old at done place out
  pub whole : all ≡ done ++ rest
  pub room : at + length all ≤ length old

pub left_first : (old : List ℕ) (at : ℕ) (all : List ℕ) → at + length all ≤ length old → Left old at all old at all
left_first old at all h = record { done = []; put = put_none old at (omega arith); whole = refl; room = h }

pub left_length : {old : List ℕ} {at : ℕ} {all out : List ℕ} {place : ℕ} {rest : List ℕ} → Left old at all out place rest → length out ≡ length old
left_length g = put_length g.put

-- what is left fits
pub left_fits : {old : List ℕ} {at : ℕ} {all out : List ℕ} {place : ℕ} {rest : List ℕ} → Left old at all out place rest → place + length rest ≤ length out
left_fits {rest = rest} g = omega (arith, g.room, g.put.ends, left_length g, ap length g.whole, length-append g.done rest)

pub left_room : {old : List ℕ} {at : ℕ} {all out : List ℕ} {place : ℕ} {rest : List ℕ} (a b : List ℕ)
    → Left old at all out place rest → rest ≡ a ++ b → place + length a ≤ length out
left_room a b g e = omega (arith, left_fits g, ap length e, length-append a b)

pub left_step : {old : List ℕ} {at : ℕ} {all out : List ℕ} {place : ℕ} {rest a : List ℕ} (b : List ℕ) {next : ℕ} {new : List ℕ}
    → Left old at all out place rest → rest ≡ a ++ b → Put out place a next new → Left old at all new next b
left_step {a = a} b g e p =
    record {
      done = g.done ++ a;
      put = put_then g.put p;
      whole = g.whole ∙ ap (λ (l : List ℕ). g.done ++ l) e ∙ sym (append_assoc g.done a b);
      room = g.room;
    }

pub left_done : {old : List ℕ} {at : ℕ} {all out : List ℕ} {place : ℕ} {rest : List ℕ}
    → Left old at all out place rest → rest ≡ [] → Put old at all place out
left_done g e = put_as g.put (sym (g.whole ∙ ap (λ (l : List ℕ). g.done ++ l) e ∙ append-nil g.done))

-- what is left of a list is its next element and what is left then
pub drop_step : (s : List ℕ) (i : ℕ) → i < length s → drop i s ≡ (get_or s i 0 ∷ []) ++ drop (i + 1) s
drop_step s i h = drop-cons s i 0 h ∙ rw add-one
