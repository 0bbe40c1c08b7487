-- A format and what follows it, and several numbers of one kind: how they are read, what fits them, and their bytes.
use Prim.Native.Nat.{ℕ, zero, suc, ◌-◌, ◌<◌, ◌≤◌}
use mathlib.Core.List.{List, [], ◌∷◌, ◌++◌, append_assoc}
use mathlib.Core.Path.{◌≡◌, refl, sym, ap, ◌∙◌}
use native.Mathlib.Omega.{arith}
use lib.ListN.{length, take, drop}
use Rattle.verdict.specs.Verdict.{Verdict}
use Rattle.verdict.specs.Verdict.Verdict.{Fine, Against}
use Rattle.numbers.specs.Numbers.{Number, encode, number_at}
use Rattle.numbers.specs.Numbers.Number.{Value, Fault}
use Rattle.numbers.specs.Format.{Format, ended, item, gate, many, Reading, got, refused, held_to, or_refused, unless_refused, before, reading, encode_all, Fits}
use Rattle.numbers.proofs.Formats.{refused_got}

pub many_none : (test : ℕ → Verdict) (f : Format) → many 0 test f ≡ f
unfolding many
many_none test f = refl

pub many_more : (m : ℕ) (test : ℕ → Verdict) (f : Format) → 0 < m → many m test f ≡ item test (λ v. many (m - 1) test f)
unfolding many
many_more zero test f h = absurd (omega arith)
many_more (suc m) test f h = let e : m ≡ suc m - 1 = omega arith in ap (λ (n : ℕ). item test (λ v. many n test f)) e

pub reading_ended : (s : List ℕ) (at : ℕ) → reading ended s at ≡ got [] at
unfolding reading
reading_ended s at = refl

-- ---- reading the one part and then the other

abbrev pub then_reading : Reading → (List ℕ → ℕ → Reading) → Reading
then_reading (got vs next) go_on = go_on vs next
then_reading (refused w p) go_on = refused w p

abbrev pub before_all : List ℕ → Reading → Reading
before_all us (got vs next) = got (us ++ vs) next
before_all us (refused w p) = refused w p

pub none_before : (r : Reading) → r ≡ before_all [] r
none_before (got vs n) = refl
none_before (refused w p) = refl

-- one format and then another, which may depend on the numbers of the first
unfoldable pub followed : Format → (List ℕ → Format) → Format
followed ended more = more []
followed (item test rest) more = item test (λ v. followed (rest v) (λ us. more (v ∷ us)))
followed (gate verdict rest) more = gate verdict (followed rest more)

pub many_followed : (m : ℕ) (test : ℕ → Verdict) (f g : Format) → many m test (followed f (λ us. g)) ≡ followed (many m test f) (λ us. g)
unfolding many followed
many_followed zero test f g = refl
many_followed (suc m) test f g = ap (λ (h : Format). item test (λ v. h)) (many_followed m test f g)

abbrev pub going_on : (List ℕ → Format) → List ℕ → List ℕ → ℕ → Reading
going_on more s us next = before_all us (reading (more us) s next)

pub one_before_all : (v : ℕ) (us : List ℕ) (r : Reading) → before v (before_all us r) ≡ before_all (v ∷ us) r
one_before_all v us (got vs n) = refl
one_before_all v us (refused w p) = refl

module _ (s : List ℕ) where
  then_before : (more : List ℕ → Format) (v : ℕ) (r : Reading) → before v (then_reading r (going_on (λ us. more (v ∷ us)) s)) ≡ then_reading (before v r) (going_on more s)
  then_before more v (got us next) = one_before_all v us (reading (more (v ∷ us)) s next)
  then_before more v (refused w p) = refl

  then_held : (n : Number) (rest : ℕ → Format) (more : List ℕ → Format)
      → ((v next : ℕ) → reading (followed (rest v) (λ us. more (v ∷ us))) s next ≡ then_reading (reading (rest v) s next) (going_on (λ us. more (v ∷ us)) s))
      → or_refused n (λ v next. before v (reading (followed (rest v) (λ us. more (v ∷ us))) s next)) ≡ then_reading (or_refused n (λ v next. before v (reading (rest v) s next))) (going_on more s)
  then_held (Fault w p) rest more h = refl
  then_held (Value v next) rest more h = ap (before v) (h v next) ∙ then_before more v (reading (rest v) s next)

  then_ruled : (u : Verdict) (at : ℕ) (r : Reading) (go_on : List ℕ → ℕ → Reading) → unless_refused u at (then_reading r go_on) ≡ then_reading (unless_refused u at r) go_on
  then_ruled Fine at r go_on = refl
  then_ruled (Against w) at r go_on = refl

-- reading the two is reading the first, and going on from its end
pub reading_followed : (f : Format) (more : List ℕ → Format) (s : List ℕ) (at : ℕ) → reading (followed f more) s at ≡ then_reading (reading f s at) (going_on more s)
unfolding followed reading
reading_followed ended more s at = none_before (reading (more []) s at)
reading_followed (item test rest) more s at =
    then_held s (held_to test at (number_at s at)) rest more (λ v next. reading_followed (rest v) (λ us. more (v ∷ us)) s next)
reading_followed (gate verdict rest) more s at =
    ap (unless_refused verdict at) (reading_followed rest more s at) ∙ then_ruled s verdict at (reading rest s at) (going_on more s)

pub reading_many : (m : ℕ) (test : ℕ → Verdict) (f : Format) (s : List ℕ) (at : ℕ)
    → reading (many m test f) s at ≡ then_reading (reading (many m test ended) s at) (going_on (λ us. f) s)
unfolding followed
reading_many m test f s at = ap (λ (g : Format). reading g s at) (many_followed m test ended f) ∙ reading_followed (many m test ended) (λ us. f) s at

-- ---- how many were read

more_length : (m : ℕ) (f : Format) (s ws : List ℕ) (next : ℕ) → ((from : ℕ) (us : List ℕ) (to : ℕ) → reading f s from ≡ got us to → length us ≡ m)
    → (n : Number) → or_refused n (λ v to. before v (reading f s to)) ≡ got ws next → length ws ≡ suc m
more_length m f s ws next ih (Fault w p) h = absurd (refused_got h)
more_length m f s ws next ih (Value v from) h = go (reading f s from) refl h
  where
    go : (r : Reading) → reading f s from ≡ r → before v r ≡ got ws next → length ws ≡ suc m
    go (refused w p) e h = absurd (refused_got h)
    go (got us to) e h = let x : ws ≡ v ∷ us = cc in ap length x ∙ ap suc (ih from us to e)

pub many_length : (m : ℕ) (test : ℕ → Verdict) (s : List ℕ) (at : ℕ) (ws : List ℕ) (next : ℕ) → reading (many m test ended) s at ≡ got ws next → length ws ≡ m
unfolding many reading
many_length zero test s at ws next h = let x : ws ≡ [] = cc in ap length x
many_length (suc m) test s at ws next h = more_length m (many m test ended) s ws next (λ from us to q. many_length m test s from us to q) (held_to test at (number_at s at)) h

-- ---- what fits

pub record FitsMany (m : ℕ) (test : ℕ → Verdict) (f : Format) (vs : List ℕ) : Type 0 where
  pub first : Fits (many m test ended) (take m vs)
  pub rest : Fits f (drop m vs)
  pub enough : m ≤ length vs

pub fits_many : (m : ℕ) (test : ℕ → Verdict) (f : Format) (vs : List ℕ) → Fits (many m test f) vs → FitsMany m test f vs
unfolding many Fits
fits_many zero test f vs h = record { first = tt; rest = h; enough = omega arith }
fits_many (suc m) test f [] h = absurd h
fits_many (suc m) test f (v ∷ vs) h =
    let r : FitsMany m test f vs = fits_many m test f vs h.2 in
    record { first = (h.0, h.1, r.first); rest = r.rest; enough = omega (arith, r.enough) }

pub many_fits : (m : ℕ) (test : ℕ → Verdict) (f : Format) (ws us : List ℕ) → Fits (many m test ended) ws → Fits f us → Fits (many m test f) (ws ++ us)
unfolding many Fits
many_fits zero test f [] us h k = k
many_fits zero test f (w ∷ ws) us h k = absurd h
many_fits (suc m) test f [] us h k = absurd h
many_fits (suc m) test f (w ∷ ws) us h k = (h.0, h.1, many_fits m test f ws us h.2 k)

pub many_size : (m : ℕ) (test : ℕ → Verdict) (ws : List ℕ) → Fits (many m test ended) ws → length ws ≡ m
unfolding many Fits
many_size zero test [] h = refl
many_size zero test (w ∷ ws) h = absurd h
many_size (suc m) test [] h = absurd h
many_size (suc m) test (w ∷ ws) h = ap suc (many_size m test ws h.2)

pub followed_fits : (f : Format) (more : List ℕ → Format) (us vs : List ℕ) → Fits f us → Fits (more us) vs → Fits (followed f more) (us ++ vs)
unfolding followed Fits
followed_fits ended more [] vs h k = k
followed_fits ended more (u ∷ us) vs h k = absurd h
followed_fits (item test rest) more [] vs h k = absurd h
followed_fits (item test rest) more (u ∷ us) vs h k = (h.0, h.1, followed_fits (rest u) (λ ws. more (u ∷ ws)) us vs h.2 k)
followed_fits (gate verdict rest) more us vs h k = (h.0, followed_fits rest more us vs h.1 k)

-- numbers that fit both parts are those of the one and those of the other
pub record FitsFollowed (f : Format) (more : List ℕ → Format) (ws : List ℕ) : Type 0 where
  pub us : List ℕ
  pub vs : List ℕ
  pub all : ws ≡ us ++ vs
  pub first : Fits f us
  pub then : Fits (more us) vs

pub fits_followed : (f : Format) (more : List ℕ → Format) (ws : List ℕ) → Fits (followed f more) ws → FitsFollowed f more ws
unfolding followed Fits
fits_followed ended more ws h = record { us = []; vs = ws; all = refl; first = tt; then = h }
fits_followed (item test rest) more [] h = absurd h
fits_followed (item test rest) more (w ∷ ws) h =
    let r : FitsFollowed (rest w) (λ us. more (w ∷ us)) ws = fits_followed (rest w) (λ us. more (w ∷ us)) ws h.2 in
    record { us = w ∷ r.us; vs = r.vs; all = ap (λ (l : List ℕ). w ∷ l) r.all; first = (h.0, h.1, r.first); then = r.then }
fits_followed (gate verdict rest) more ws h =
    let r : FitsFollowed rest more ws = fits_followed rest more ws h.1 in
    record { us = r.us; vs = r.vs; all = r.all; first = (h.0, r.first); then = r.then }

-- ---- the bytes of two parts

pub encode_append : (us vs : List ℕ) → encode_all (us ++ vs) ≡ encode_all us ++ encode_all vs
unfolding encode_all
encode_append [] vs = refl
encode_append (u ∷ us) vs = ap (λ (l : List ℕ). encode u ++ l) (encode_append us vs) ∙ sym (append_assoc (encode u) (encode_all us) (encode_all vs))
