-- Closing decides congruence: two sets are congruent exactly when they close to the same set, and exactly when each grows until the other
-- lies within. Assumes nothing.
use mathlib.Core.Path.{◌≡◌}
use mathlib.Core.Logic.{◌↔◌, ⊎_elim}
use Prim.Native.Nat.{ℕ}
use lib.Bits.{bit_or}
use Rattle.sets.specs.Sets.{Within}
use Rattle.sets.proofs.Bits.{union_comm}
use Rattle.sets.proofs.Inclusion.{within_trans, within_antisym, within_left, within_right, within_union}
use Rattle.congruence.specs.Congruence.{Congruence, Congruent}
use Rattle.congruence.specs.Congruence.Congruent.{same, back, on, union}
use Rattle.congruence.specs.Closing.{Grows, Closed, Closes, Toward}
use Rattle.congruence.proofs.Laws.{least, of_equal}
use Rattle.congruence.proofs.Growth.{grown_within, grown_congruent}

-- a closed set has both sides of a congruent pair within it, or neither
pub closed_holds : {R : ℕ → ℕ → Type 0} {c : ℕ} → Closed R c → {a b : ℕ} → Congruent R a b → Within a c ↔ Within b c
closed_holds {R} {c} k h = least laws k h
  where
    side : {a b d e : ℕ} → (Within a c → Within b c) → (Within d c → Within e c) → Within (bit_or a d) c → Within (bit_or b e) c
    side {a} {b} {d} {e} p q w = within_union (p (within_trans (within_left a d) w)) (q (within_trans (within_right a d) w))

    laws : Congruence (λ (a b : ℕ). Within a c ↔ Within b c)
    laws =
        record {
          reflexive = λ a. (λ w. w, λ w. w);
          symmetric = λ p. (p.1, p.0);
          transitive = λ p q. (λ w. q.0 (p.0 w), λ w. p.1 (q.1 w));
          unions = λ p q. (side p.0 q.0, side p.1 q.1);
        }

-- ---- whole closings

pub closing_decides : {R : ℕ → ℕ → Type 0} {a b a' b' : ℕ} → Closes R a a' → Closes R b b' → Congruent R a b ↔ (a' ≡ b')
closing_decides {R} {a} {b} {a'} {b'} p q =
    (λ h. within_antisym (inside p q h) (inside q p (back h)), λ e. on (grown_congruent p.grown) (on (of_equal e) (back (grown_congruent q.grown))))
  where
    inside : {c d c' d' : ℕ} → Closes R c c' → Closes R d d' → Congruent R c d → Within c' d'
    inside s t h = (closed_holds t.still (on (back (grown_congruent s.grown)) h)).1 (grown_within t.grown)

-- closing is determined: a set closes to one set alone
pub closes_unique : {R : ℕ → ℕ → Type 0} {a c d : ℕ} → Closes R a c → Closes R a d → c ≡ d
closes_unique {R} {a} p q = (closing_decides p q).0 (same a)

-- ---- growth toward a goal

-- what lies within the growth of a set adds nothing to its class
covered : {R : ℕ → ℕ → Type 0} {a b mask : ℕ} → Grows R a mask → Within b mask → Congruent R a (bit_or b a)
covered {R} {a} {b} {mask} g w = let h = grown_congruent g in on h (back (rw w.joins at (union (same b) h)))

-- a set that is congruent to the goal reaches it
pub reaches : {R : ℕ → ℕ → Type 0} {a b mask : ℕ} → Toward R a b mask → Congruent R a b → Within b mask
reaches t h = ⊎_elim (λ w. w) (λ still. (closed_holds still h).0 (grown_within t.grown)) t.ended

pub growing_decides : {R : ℕ → ℕ → Type 0} {a b a' b' : ℕ} → Toward R a b a' → Toward R b a b' → Congruent R a b ↔ (Within b a' × Within a b')
growing_decides {R} {a} {b} p q = (
  λ h. (reaches p h, reaches q (back h)),
  λ w. on (covered p.grown w.0) (on (of_equal (union_comm b a)) (back (covered q.grown w.1))),
)
