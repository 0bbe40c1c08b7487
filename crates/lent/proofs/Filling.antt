-- What is put on a page: one run after another, and a loop's record of what is left. Assumes nothing.
use mathlib.Core.Path.{◌≡◌, refl, sym, ap, subst, ◌∙◌}
use mathlib.Core.List.{List, [], ◌++◌, append_assoc, append-nil}
use Prim.Native.Nat.{ℕ, ◌≤◌}
use native.Mathlib.Omega.{arith}
use lib.ListN.{length, length-append}
use Rattle.lent.specs.declared.Page.{Page}
use Rattle.lent.specs.Page.{HasRoomFor, Puts}
use Rattle.lent.proofs.Putting.{put_length, put_none, put_as, put_then}

pub puts_none : (page : Page) → page.at ≤ length page.out.now → Puts page [] page
puts_none page h = record { put = put_none page.out.now page.at h; same_buffer = refl }

pub puts_as : {old : Page} {a b : List ℕ} {new : Page} → Puts old a new → a ≡ b → Puts old b new
puts_as p e = record { put = put_as p.put e; same_buffer = p.same_buffer }

pub puts_then : {old : Page} {a : List ℕ} {mid : Page} {b : List ℕ} {new : Page} → Puts old a mid → Puts mid b new → Puts old (a ++ b) new
puts_then p q = record { put = put_then p.put q.put; same_buffer = q.same_buffer ∙ p.same_buffer }

-- a page keeps its length
pub puts_length : {old : Page} {a : List ℕ} {new : Page} → Puts old a new → length new.out.now ≡ length old.out.now
puts_length p = put_length p.put

-- what is to come behind what was put still fits
pub puts_room : {old : Page} {a : List ℕ} {new : Page} → Puts old a new → (b : List ℕ) → HasRoomFor old (a ++ b) → HasRoomFor new b
puts_room {a = a} p b h = record { fits = omega (arith, h.fits, p.put.ends, puts_length p, length-append a b) }

-- ---- in two parts

-- all is a, and then b
pub record Splits (all a b : List ℕ) : Type 0 where
  pub parts : all ≡ a ++ b

pub first_fits : {page : Page} {all a b : List ℕ} → HasRoomFor page all → Splits all a b → HasRoomFor page a
first_fits {a = a} {b} h s = record { fits = omega (arith, h.fits, ap length s.parts, length-append a b) }

pub second_fits : {page : Page} {all a b : List ℕ} {mid : Page} → HasRoomFor page all → Splits all a b → Puts page a mid → HasRoomFor mid b
second_fits {page} {b = b} h s p = puts_room p b (subst (HasRoomFor page) s.parts h)

pub both_put : {page : Page} {all a b : List ℕ} {mid new : Page} → Splits all a b → Puts page a mid → Puts mid b new → Puts page all new
both_put s p q = puts_as (puts_then p q) (sym s.parts)

-- ---- a loop that puts one thing after another

-- of all that is to be put on the first page, rest is left
pub record ToPut (first : Page) (all : List ℕ) (page : Page) (rest : List ℕ) : Type 0 where
  pub done : List ℕ
  pub puts : Puts first done page
  pub whole : all ≡ done ++ rest
  pub room : HasRoomFor page rest

pub to_put_first : (page : Page) (all : List ℕ) → HasRoomFor page all → ToPut page all page all
to_put_first page all h = record { done = []; puts = puts_none page (omega (arith, h.fits)); whole = refl; room = h }

pub to_put_fits : {first : Page} {all : List ℕ} {page : Page} {rest a b : List ℕ} → ToPut first all page rest → Splits rest a b → HasRoomFor page a
to_put_fits g s = first_fits g.room s

pub to_put_step : {first : Page} {all : List ℕ} {page : Page} {rest a b : List ℕ} {new : Page}
    → ToPut first all page rest → Splits rest a b → Puts page a new → ToPut first all new b
to_put_step {a = a} {b} g s p =
    record {
      done = g.done ++ a;
      puts = puts_then g.puts p;
      whole = g.whole ∙ ap (λ (l : List ℕ). g.done ++ l) s.parts ∙ sym (append_assoc g.done a b);
      room = second_fits g.room s p;
    }

pub to_put_done : {first : Page} {all : List ℕ} {page : Page} {rest : List ℕ} → ToPut first all page rest → rest ≡ [] → Puts first all page
to_put_done g e = puts_as g.puts (sym (g.whole ∙ ap (λ (l : List ℕ). g.done ++ l) e ∙ append-nil g.done))
