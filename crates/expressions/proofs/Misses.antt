-- How the pass comes on over what was read, and where it stops.
use mathlib.Core.Path.{◌≡◌, refl, sym, ap, ◌∙◌}
use mathlib.Core.Logic.{inl, inr}
use mathlib.Core.Bool.{Bool, true, false, cond, true≢false}
use mathlib.Core.List.{List, [], ◌∷◌, ◌++◌}
use Prim.Native.Nat.{ℕ, suc, ◌+◌, ◌<◌}
use native.Mathlib.Numerals.{add-one}
use native.Mathlib.Omega.{arith}
use borrow.Author.Tests.{lt-leb}
use Rattle.expressions.specs.Grammar.{Token, Level}
use Rattle.expressions.specs.Grammar.Level.{alternation}
use Rattle.expressions.specs.Grammar.Token.{bar, open'}
use Rattle.expressions.specs.Texts.{Passes}
use Rattle.expressions.specs.Texts.Passes.{here}
use Rattle.expressions.specs.Scan.{scan, Here, Comes, Faults}
use Rattle.expressions.specs.Scan.Phase.{going, halted}
use Rattle.expressions.specs.Scan.Stops.{no_mark, no_bar, no_close, none_open}
use Rattle.expressions.specs.Scan.Here.{bad_here, end_here, stop_here}
use Rattle.expressions.specs.Pieces.{begins, Looks, Core, Ends}
use Rattle.expressions.specs.declared.Look.{Look}
use Rattle.expressions.specs.declared.Tables.{Tables}
use Rattle.expressions.specs.declared.Token.{Token as Seen}
use Rattle.expressions.specs.declared.Token.TheVariants.{Event, One, Zero, Postfix, Bar, Open, Close, End, Unknown}
use Rattle.expressions.proofs.Faults.{scan_append}
use Rattle.expressions.proofs.Passing.{passes_on}
use Rattle.expressions.proofs.Parts.{TokenAt, token_passes, mark_at, bar_at, close_at, unknown_at}

pub fault_on : {text : List ℕ} {at d u to d' u' number place : ℕ} {n n' : Bool} {ts : List Token} → Comes text at n d u to n' d' u' ts
    → Faults text to n' d' u' number place → Faults text at n d u number place
fault_on {d = d} {u} {n = n} {ts = ts} c f =
    record {
      tokens = ts ++ f.tokens;
      need = f.need;
      depth = f.depth;
      used = f.used;
      comes =
          record {
            passes = passes_on c.passes f.comes.passes;
            scans = scan_append ts f.tokens (going n d u) ∙ ap (scan f.tokens) c.scans ∙ f.comes.scans;
          };
      fault = f.fault;
    }

pub fault_here : {text : List ℕ} {at d u number : ℕ} {n : Bool} → Here text at n d u number → Faults text at n d u number at
fault_here {d = d} {u} {n = n} h = record { tokens = []; need = n; depth = d; used = u; comes = record { passes = here; scans = refl }; fault = h }

pub gap_comes : {text : List ℕ} {at to : ℕ} (n : Bool) (d u : ℕ) → Passes text at [] to → Comes text at n d u to n d u []
gap_comes n d u p = record { passes = p; scans = refl }

pub core_comes : {l : Level} {text : List ℕ} {at d u : ℕ} {old new : Tables} {null : Bool} {p q used to : ℕ} (n : Bool)
    (k : Core l text at d u old new null p q used to)
    → Comes text at n d u to false d used k.tokens
core_comes n k = record { passes = k.passes; scans = k.scans n }

pub open_comes : {text : List ℕ} {place past : ℕ} (n : Bool) (d u : ℕ) → TokenAt text place past open' → d < 32
    → Comes text place n d u past true (d + 1) u (open' ∷ [])
open_comes n d u t l =
    record {
      passes = token_passes t;
      scans = ap (λ (b : Bool). cond b halted (going true (suc d) u)) (lt-leb 32 d l) ∙ ap (λ (z : ℕ). going true z u) (sym (add-one d));
    }

pub bar_comes : {text : List ℕ} {place past : ℕ} (d u : ℕ) → TokenAt text place past bar → Comes text place false d u past true d u (bar ∷ [])
bar_comes d u t = record { passes = token_passes t; scans = refl }

-- nothing but a closing parenthesis can follow an alternation, inside one
pub unclosed : {text : List ℕ} {k : Look} (d u : ℕ) → Looks text k → Ends alternation k.token → (k.token ≡ Close → ⊥)
    → Here text k.place false (suc d) u 30
unclosed {text} {k} d u l e f = go k.token refl
  where
    go : (t : Seen) → k.token ≡ t → Here text k.place false (suc d) u 30
    go (Event a) j = absurd (true≢false (ap begins (sym j) ∙ e.1))
    go One j = absurd (true≢false (ap begins (sym j) ∙ e.1))
    go Zero j = absurd (true≢false (ap begins (sym j) ∙ e.1))
    go (Postfix m) j = absurd (e.0 m j)
    go Bar j = absurd (e.2 j)
    go Open j = absurd (true≢false (ap begins (sym j) ∙ e.1))
    go Close j = absurd (f j)
    go End j = end_here (l.end j) (inr (omega arith))
    go Unknown j = let a = unknown_at l j in bad_here a.inside a.item

-- nor can anything follow one that is not inside
pub unended : {text : List ℕ} {k : Look} (u : ℕ) → Looks text k → Ends alternation k.token → (k.token ≡ End → ⊥)
    → Here text k.place false 0 u 30
unended {text} {k} u l e f = go k.token refl
  where
    go : (t : Seen) → k.token ≡ t → Here text k.place false 0 u 30
    go (Event a) j = absurd (true≢false (ap begins (sym j) ∙ e.1))
    go One j = absurd (true≢false (ap begins (sym j) ∙ e.1))
    go Zero j = absurd (true≢false (ap begins (sym j) ∙ e.1))
    go (Postfix m) j = absurd (e.0 m j)
    go Bar j = absurd (e.2 j)
    go Open j = absurd (true≢false (ap begins (sym j) ∙ e.1))
    go Close j = let a = close_at l j in stop_here a.inside a.item none_open
    go End j = absurd (f j)
    go Unknown j = let a = unknown_at l j in bad_here a.inside a.item

-- where a factor must come, and none does
pub no_factor : {text : List ℕ} {k : Look} (d u : ℕ) → Looks text k → begins k.token ≡ false → Here text k.place true d u 30
no_factor {text} {k} d u l e = go k.token refl
  where
    begun : (t : Seen) → k.token ≡ t → begins t ≡ true → Here text k.place true d u 30
    begun t j b = absurd (true≢false (sym b ∙ ap begins (sym j) ∙ e))

    go : (t : Seen) → k.token ≡ t → Here text k.place true d u 30
    go (Event a) j = begun (Event a) j refl
    go One j = begun One j refl
    go Zero j = begun Zero j refl
    go (Postfix m) j = let a = mark_at l j in stop_here a.inside a.item no_mark
    go Bar j = let a = bar_at l j in stop_here a.inside a.item no_bar
    go Open j = begun Open j refl
    go Close j = let a = close_at l j in stop_here a.inside a.item no_close
    go End j = end_here (l.end j) (inl refl)
    go Unknown j = let a = unknown_at l j in bad_here a.inside a.item
