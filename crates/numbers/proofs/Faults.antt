-- One law for each fault of a number: where reading finds it, and nowhere else.
use Prim.Native.Nat.{ℕ, zero, suc, ◌+◌, ◌-◌, ◌<◌, ◌≤◌}
use mathlib.Core.List.{List, [], ◌∷◌}
use mathlib.Core.Logic.{◌↔◌, ◌⊎◌, inl, inr}
use mathlib.Core.Path.{◌≡◌, sym, ap, ◌∙◌}
use native.Mathlib.Decide.{ℕ_discrete}
use native.Mathlib.Omega.{arith}
use lib.ListN.{length, drop, get_or}
use Rattle.verdict.specs.Verdict.Verdict.{Fine, Against}
use Rattle.verdict.proofs.Ordered.{apart, one_number}
use Rattle.numbers.specs.Numbers.{byte_test, Form, whole, faulty, more, groups, placed, number_at}
use Rattle.numbers.specs.Numbers.Number.{Fault}
use Rattle.numbers.specs.Faults.{EndsEarly, Needless, Beyond, BadlyWritten, Padded, TooBig}
use Rattle.numbers.proofs.Groups.{faulty_whole, fine_when, against_zero, against_tenth, groups_none, groups_bad, groups_more, groups_cases}
use Rattle.numbers.proofs.RoundTrip.{fault_value}

-- ---- one byte

goes_fine : (i b : ℕ) → i < 9 → 128 ≤ b → byte_test i b ≡ Fine
goes_fine i b n l = fine_when i b (λ z. absurd (omega arith)) (λ k. absurd (omega arith))

needless_against : (i b : ℕ) → Needless i b → byte_test i b ≡ Against 21
needless_against i b h = against_zero i b h.later h.nothing

beyond_against : (i b : ℕ) → Beyond i b → byte_test i b ≡ Against 23
beyond_against i b h = against_tenth i b (omega (arith, h.tenth)) h.other

-- what is against a byte, by its number
data Spoken (i b w : ℕ) : Type 0 where
  padded : w ≡ 21 → Needless i b → Spoken i b w
  too_big : w ≡ 23 → Beyond i b → Spoken i b w

against_spoken : (i b : ℕ) {w : ℕ} → i ≤ 9 → byte_test i b ≡ Against w → Spoken i b w
against_spoken i b {w} n h = go (ℕ_discrete b 0) (ℕ_discrete i 0) (ℕ_discrete b 1) (ℕ_discrete i 9)
  where
    by_number : {v : ℕ} → byte_test i b ≡ Against v → w ≡ v
    by_number e = one_number h e

    fine : (b ≡ 0 → i ≡ 0) → (9 ≤ i → b ≡ 1) → Spoken i b w
    fine f t = apart (fine_when i b f t) h

    go : Dec (b ≡ 0) → Dec (i ≡ 0) → Dec (b ≡ 1) → Dec (i ≡ 9) → Spoken i b w
    go (yes z) (no e) d f = let r : Needless i b = record { later = omega arith; nothing = z } in padded (by_number (needless_against i b r)) r
    go (yes z) (yes e) d f = fine (λ p. e) (λ p. absurd (omega arith))
    go (no z) d (yes o) f = fine (λ p. absurd (z p)) (λ p. o)
    go (no z) d (no o) (yes e) = let r : Beyond i b = record { tenth = e; other = omega arith } in too_big (by_number (beyond_against i b r)) r
    go (no z) d (no o) (no f) = fine (λ p. absurd (z p)) (λ p. absurd (omega arith))

-- by which numbers
spoken_number : {i b w : ℕ} → Spoken i b w → (w ≡ 21) ⊎ (w ≡ 23)
spoken_number (padded e r) = inl e
spoken_number (too_big e r) = inr e

spoken_needless : {i b : ℕ} → Spoken i b 21 → Needless i b
spoken_needless (padded e r) = r
spoken_needless (too_big e r) = absurd (omega arith)

spoken_beyond : {i b : ℕ} → Spoken i b 23 → Beyond i b
spoken_beyond (padded e r) = absurd (omega arith)
spoken_beyond (too_big e r) = r

-- ---- CUT

ends_none : (i : ℕ) → i ≤ 9 → EndsEarly i []
ends_none i h = record { few = omega arith; go_on = λ j l. absurd (omega arith) }

ends_more : (i b : ℕ) (bs : List ℕ) → 128 ≤ b → EndsEarly (suc i) bs → EndsEarly i (b ∷ bs)
ends_more i b bs l h = record { few = omega (arith, h.few); go_on = on }
  where
    on : (j : ℕ) → j < length (b ∷ bs) → 128 ≤ get_or (b ∷ bs) j 0
    on zero k = l
    on (suc j) k = h.go_on j (omega arith)

ends_rest : (i b : ℕ) (bs : List ℕ) → EndsEarly i (b ∷ bs) → EndsEarly (suc i) bs
ends_rest i b bs h = record { few = omega (arith, h.few); go_on = λ j l. h.go_on (suc j) (omega arith) }

more_faulty : (g : ℕ) (f : Form) {w : ℕ} → more g f ≡ faulty w → f ≡ faulty w
more_faulty g (whole v n) h = absurd (faulty_whole (sym h))
more_faulty g (faulty w) h = h

cut_when : (i : ℕ) (bs : List ℕ) → EndsEarly i bs → groups i bs ≡ faulty 20
cut_when i [] h = groups_none i
cut_when i (b ∷ bs) h =
    let l : 128 ≤ b = h.go_on 0 (omega arith) in
    groups_more i b bs (goes_fine i b (omega (arith, h.few)) l) l ∙ ap (more (b - 128)) (cut_when (suc i) bs (ends_rest i b bs h))

not_cut : {w : ℕ} → w ≡ 20 → (w ≡ 21) ⊎ (w ≡ 23) → ⊥
not_cut n (inl e) = omega arith
not_cut n (inr e) = omega arith

cut_means : (i : ℕ) (bs : List ℕ) → i ≤ 9 → groups i bs ≡ faulty 20 → EndsEarly i bs
cut_means i [] h e = ends_none i h
cut_means i (b ∷ bs) h e =
    groups_cases i b bs (λ f. f ≡ faulty 20 → EndsEarly i (b ∷ bs))
    (λ w a q. absurd (not_cut (let n : w ≡ 20 = cc in n) (spoken_number (against_spoken i b h a))))
    (λ a l q. absurd (faulty_whole (sym q)))
    (λ a l k q. ends_more i b bs l (cut_means (suc i) bs (omega arith) (more_faulty (b - 128) (groups (suc i) bs) q)))
    e

placed_fault : (at : ℕ) (f : Form) {w p : ℕ} → placed at f ≡ Fault w p → (f ≡ faulty w) × (p ≡ at)
placed_fault at (whole v n) h = absurd (fault_value (sym h))
placed_fault at (faulty x) {w} h = let e : x ≡ w = cc in (ap faulty e, cc)

-- ---- PADDED and TOO-BIG: a bad byte, whatever it is called

module _ (Bad : ℕ → ℕ → Type 0) (w : ℕ) (not_none : w ≡ 20 → ⊥) (against : (i b : ℕ) → Bad i b → byte_test i b ≡ Against w)
    (means : (i b : ℕ) → i ≤ 9 → byte_test i b ≡ Against w → Bad i b) where
  badly_here : (i b : ℕ) (bs : List ℕ) → i ≤ 9 → Bad i b → BadlyWritten Bad i (b ∷ bs)
  badly_here i b bs n h =
      let e : i + 0 ≡ i = omega arith in
      record { j = 0; there = omega arith; among = omega arith; go_on = λ m l. absurd (omega arith); bad = rw e h }

  badly_later : (i b : ℕ) (bs : List ℕ) → 128 ≤ b → BadlyWritten Bad (suc i) bs → BadlyWritten Bad i (b ∷ bs)
  badly_later i b bs l h =
      let e : i + suc h.j ≡ suc i + h.j = omega arith in
      record { j = suc h.j; there = omega (arith, h.there); among = omega (arith, h.among); go_on = on; bad = rw e h.bad }
    where
      on : (m : ℕ) → m < suc h.j → 128 ≤ get_or (b ∷ bs) m 0
      on zero k = l
      on (suc m) k = h.go_on m (omega arith)

  badly_at : (i : ℕ) (bs : List ℕ) (j : ℕ) → j < length bs → ((m : ℕ) → m < j → 128 ≤ get_or bs m 0) → Bad (i + j) (get_or bs j 0) → i + j ≤ 9 → groups i bs ≡ faulty w
  badly_at i [] j l on bad n = absurd (omega arith)
  badly_at i (b ∷ bs) zero l on bad n =
      let e : i + 0 ≡ i = omega arith in
      groups_bad i b bs (against i b (rw e at bad))
  badly_at i (b ∷ bs) (suc j) l on bad n =
      let k : 128 ≤ b = on 0 (omega arith) in
      let e : i + suc j ≡ suc i + j = omega arith in
      groups_more i b bs (goes_fine i b (omega arith) k) k
      ∙ ap (more (b - 128)) (badly_at (suc i) bs j (omega arith) (λ m q. on (suc m) (omega arith)) (rw e at bad) (omega arith))

  badly_means : (i : ℕ) (bs : List ℕ) → i ≤ 9 → groups i bs ≡ faulty w → BadlyWritten Bad i bs
  badly_means i [] h e = let z : faulty w ≡ faulty 20 = sym e ∙ groups_none i in absurd (not_none (let y : w ≡ 20 = cc in y))
  badly_means i (b ∷ bs) h e =
      groups_cases i b bs (λ f. f ≡ faulty w → BadlyWritten Bad i (b ∷ bs))
      (λ v a q. let y : v ≡ w = cc in badly_here i b bs h (means i b h (a ∙ ap Against y)))
      (λ a l q. absurd (faulty_whole (sym q)))
      (λ a l k q. badly_later i b bs l (badly_means (suc i) bs (omega arith) (more_faulty (b - 128) (groups (suc i) bs) q)))
      e

  -- reading finds it exactly where one of the first ten bytes is bad
  badly_exactly : (s : List ℕ) (at : ℕ) → number_at s at ≡ Fault w at ↔ BadlyWritten Bad 0 (drop at s)
  unfolding number_at
  badly_exactly s at = (
    λ h. badly_means 0 (drop at s) (omega arith) (placed_fault at (groups 0 (drop at s)) h).0,
    λ h. ap (placed at) (badly_at 0 (drop at s) h.j h.there h.go_on h.bad (omega (arith, h.among))),
  )

-- no other fault

other_none : (i : ℕ) (bs : List ℕ) (w : ℕ) → i ≤ 9 → groups i bs ≡ faulty w → (w ≡ 20) ⊎ ((w ≡ 21) ⊎ (w ≡ 23))
other_none i [] w h e = let z : faulty 20 ≡ faulty w = sym (groups_none i) ∙ e in inl (let y : w ≡ 20 = cc in y)
other_none i (b ∷ bs) w h e =
    groups_cases i b bs (λ f. f ≡ faulty w → (w ≡ 20) ⊎ ((w ≡ 21) ⊎ (w ≡ 23)))
    (λ v a q. let y : v ≡ w = cc in inr (spoken_number (against_spoken i b h (a ∙ ap Against y))))
    (λ a l q. absurd (faulty_whole (sym q)))
    (λ a l k q. other_none (suc i) bs w (omega arith) (more_faulty (b - 128) (groups (suc i) bs) q))
    e

-- ---- THE LAWS

module _ (s : List ℕ) (at : ℕ) where
  -- an end of data before a number's last byte is CUT
  pub cut_exactly : number_at s at ≡ Fault 20 at ↔ EndsEarly 0 (drop at s)
  unfolding number_at
  cut_exactly =
      (λ h. cut_means 0 (drop at s) (omega arith) (placed_fault at (groups 0 (drop at s)) h).0, λ h. ap (placed at) (cut_when 0 (drop at s) h))

  -- a last group of 0 after at least one other is PADDED
  pub padded_exactly : number_at s at ≡ Fault 21 at ↔ Padded 0 (drop at s)
  padded_exactly =
      badly_exactly Needless 21 (λ e. omega arith) needless_against (λ i b n h. spoken_needless (against_spoken i b n h)) s at

  -- a tenth byte other than 00 or 01 is TOO-BIG
  pub too_big_exactly : number_at s at ≡ Fault 23 at ↔ TooBig 0 (drop at s)
  too_big_exactly =
      badly_exactly Beyond 23 (λ e. omega arith) beyond_against (λ i b n h. spoken_beyond (against_spoken i b n h)) s at

  -- there is no other fault, and the place is the first byte of the number
  pub fault_is : {w p : ℕ} → number_at s at ≡ Fault w p → ((w ≡ 20) ⊎ ((w ≡ 21) ⊎ (w ≡ 23))) × (p ≡ at)
  unfolding number_at
  fault_is {w} h =
      let q = placed_fault at (groups 0 (drop at s)) h in
      (other_none 0 (drop at s) w (omega arith) q.0, q.1)
