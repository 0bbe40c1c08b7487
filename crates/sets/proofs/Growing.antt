-- A mask that passes over a table let grow until one adds nothing: what its tests and its passes keep. Assumes nothing.
--   Keeps m      what is true of every mask on the way
--   Still j m    entry j of the table adds nothing to m
--   Grown        a mask grew to another
--   Stepped      a test was made at m and left m'; where it added nothing, Quiet holds
--   Passed       in a pass that began at the mask before, m stands after the first i entries; where nothing was added, they are still
use mathlib.Core.Path.{◌≡◌, sym, ◌∙◌}
use Prim.Native.Nat.{ℕ, ◌+◌, ◌≤◌, ◌<◌}
use native.Mathlib.Omega.{arith}
use lib.Bits.{bit_or}
use borrow.Author.Count.{below_none, below_more}
use Rattle.sets.specs.Sets.{Within}
use Rattle.sets.proofs.Inclusion.{within_refl, within_trans, within_antisym, within_right}

pub record Grown (Keeps : ℕ → Type 0) (a m : ℕ) : Type 0 where
  pub within : Within a m
  pub keeps : Keeps m

pub record Stepped (Keeps : ℕ → Type 0) (Quiet : Type 0) (m m' : ℕ) : Type 0 where
  pub grown : Grown Keeps m m'
  pub quiet : m' ≡ m → Quiet

pub record Passed (Keeps : ℕ → Type 0) (Still : ℕ → ℕ → Type 0) (count before i m : ℕ) : Type 0 where
  pub bound : i ≤ count
  pub grown : Grown Keeps before m
  pub quiet : m ≡ before → (j : ℕ) → j < i → Still j before

module _ {Keeps : ℕ → Type 0} where
  pub grown_none : {m : ℕ} → Keeps m → Grown Keeps m m
  grown_none {m} k = record { within = within_refl m; keeps = k }

  pub grown_more : {a b c : ℕ} → Grown Keeps a b → Grown Keeps b c → Grown Keeps a c
  grown_more p q = record { within = within_trans p.within q.within; keeps = q.keeps }

  -- a mask that grows and comes back to where it was stood still
  grown_back : {a b c : ℕ} → Grown Keeps a b → Grown Keeps b c → c ≡ a → b ≡ a
  grown_back p q e = within_antisym (rw e at q.within) p.within

  -- ---- one test: where it holds, `more` is added

  pub took : {Test : Type 0} {more m m' : ℕ} → Keeps (bit_or more m) → m' ≡ bit_or more m → Stepped Keeps (Test → Within more m) m m'
  took {Test} {more} {m} k e =
      record { grown = rw e (record { within = within_right more m; keeps = k }); quiet = λ still t. record { joins = sym e ∙ still } }

  pub passed_by : {Test : Type 0} {more m m' : ℕ} → Keeps m → (Test → ⊥) → m' ≡ m → Stepped Keeps (Test → Within more m) m m'
  passed_by k f e = record { grown = rw e (grown_none k); quiet = λ still t. absurd (f t) }

  -- two tests of one entry
  pub stepped_both : {m m₁ m₂ : ℕ} {P : Type 0} (Q : ℕ → Type 0) → Stepped Keeps P m m₁ → Stepped Keeps (Q m₁) m₁ m₂ → Stepped Keeps (P × Q m) m m₂
  stepped_both {m} {m₁} Q s t =
      record {
        grown = grown_more s.grown t.grown;
        quiet = λ e. let e₁ : m₁ ≡ m = grown_back s.grown t.grown e in (s.quiet e₁, rw e₁ at (t.quiet (e ∙ sym e₁)));
      }

  -- ---- a pass

  module _ {Still : ℕ → ℕ → Type 0} {count before : ℕ} where
    pub passed_none : Keeps before → Passed Keeps Still count before 0 before
    passed_none k = record { bound = omega arith; grown = grown_none k; quiet = λ e. below_none (λ j. Still j before) }

    pub passed_more : {m m' : ℕ} (i : ℕ) → i < count → Passed Keeps Still count before i m → Stepped Keeps (Still i m) m m'
        → Passed Keeps Still count before (i + 1) m'
    passed_more {m} {m'} i l p s = record { bound = omega arith; grown = grown_more p.grown s.grown; quiet = still }
      where
        still : m' ≡ before → (j : ℕ) → j < i + 1 → Still j before
        still e =
            let e₀ : m ≡ before = grown_back p.grown s.grown e in
            below_more (λ j. Still j before) i (p.quiet e₀) (rw e₀ at (s.quiet (e ∙ sym e₀)))

    -- a whole pass that added nothing
    pub passed_all : {m i : ℕ} → count ≤ i → Passed Keeps Still count before i m → m ≡ before → (j : ℕ) → j < count → Still j m
    passed_all {m} {i} l p e j b = rw e (p.quiet e j (omega arith))
