-- The records that stand in the lent columns: their columns, one record stored after them, and records laid over columns. Assumes nothing.
use mathlib.Core.Path.{◌≡◌, refl, sym, ap, ap₂, ◌∙◌}
use mathlib.Core.List.{List, [], ◌∷◌, ◌++◌, map}
use Prim.Native.Nat.{ℕ, zero, suc, ◌+◌, ◌≤◌, ◌<◌}
use native.Mathlib.Numerals.{add-one}
use native.Mathlib.Omega.{arith}
use lib.ListN.{length, get_or, take, set, length-append, length-map}
use lib.Seq.{take-suc, get_or-set_same, get_or-set_other}
use Rattle.lent.specs.Lent.{lay}
use Rattle.lent.proofs.Laying.{lay_more, length_lay, take_lay}
use Rattle.walk.specs.Walk.{Record}
use Rattle.walk.specs.Columns.{Field, value, Columns, column, columns_of, record_at, lay_columns, store, firsts, Fit}
use Rattle.walk.proofs.Columns.{value_by, column_each, record_path, columns_path, fit_at, column_snoc}
use Rattle.comparison.specs.Answers.{Lent}
use Rattle.comparison.specs.Inner.{records_of}

pub lent_path : {a b : Lent} → a.columns ≡ b.columns → a.sequence ≡ b.sequence → a ≡ b
lent_path p q i = record { columns = p i; sequence = q i }

-- ---- the first records

pub length_records : (c : Columns) (n : ℕ) → length (records_of c n) ≡ n
unfolding records_of
length_records c zero = refl
length_records c (suc n) = length-append (records_of c n) (record_at c n ∷ []) ∙ ap (λ (m : ℕ). m + 1) (length_records c n) ∙ add-one n

column_shown : (c : Columns) (x : Field) (n : ℕ) → n ≤ length (column x c) → map (value x) (records_of c n) ≡ take n (column x c)
unfolding records_of
column_shown c x zero h = refl
column_shown c x (suc n) h =
    column_snoc (value x) (records_of c n) (record_at c n)
    ∙ ap₂ (λ (u : List ℕ) (a : ℕ). u ++ (a ∷ [])) (column_shown c x n (omega arith)) (value_by (λ (y : Field). get_or (column y c) n 0) x)
    ∙ sym (take-suc (column x c) n 0 h)

-- their columns are the first places of the columns
pub shown : (c : Columns) (n : ℕ) → Fit n c → columns_of (records_of c n) ≡ firsts n c
shown c n fit = columns_path (λ (x : Field). map (value x) (records_of c n)) (λ (x : Field). take n (column x c)) (λ x. column_shown c x n (fit_at fit x))

records_alike : (c d : Columns) (n : ℕ) → ((i : ℕ) → i < n → record_at c i ≡ record_at d i) → records_of c n ≡ records_of d n
unfolding records_of
records_alike c d zero f = refl
records_alike c d (suc n) f = ap₂ (λ (ks : List Record) (r : Record). ks ++ (r ∷ [])) (records_alike c d n (λ i h. f i (omega arith))) (f n (omega arith))

-- ---- one record stored

module _ (c : Columns) (n : ℕ) (r : Record) where
  stored : (x : Field) → column x (store n r c) ≡ set (column x c) n (value x r)
  stored x = column_each (λ (y : Field) (old : List ℕ). set old n (value y r)) c x

  stored_other : (i : ℕ) → i < n → record_at (store n r c) i ≡ record_at c i
  stored_other i h =
      record_path (λ (x : Field). get_or (column x (store n r c)) i 0) (λ (x : Field). get_or (column x c) i 0)
      (λ x. ap (λ (l : List ℕ). get_or l i 0) (stored x) ∙ get_or-set_other (column x c) n i (value x r) 0 (omega arith))

  stored_there : Fit (suc n) c → record_at (store n r c) n ≡ r
  stored_there fit =
      record_path (λ (x : Field). get_or (column x (store n r c)) n 0) (λ (x : Field). value x r)
      (λ x. ap (λ (l : List ℕ). get_or l n 0) (stored x) ∙ get_or-set_same (column x c) n (value x r) 0 (fit_at fit x))

  -- a record stored at the next place is one record more
  pub records_store : Fit (suc n) c → records_of (store n r c) (suc n) ≡ records_of c n ++ (r ∷ [])
  unfolding records_of
  records_store fit = ap₂ (λ (ks : List Record) (s : Record). ks ++ (s ∷ [])) (records_alike (store n r c) c n stored_other) (stored_there fit)

-- ---- records laid

module _ (kept : List Record) (old : Columns) where
  pub laid : (x : Field) → column x (lay_columns kept old) ≡ lay (map (value x) kept) (column x old)
  laid x = column_each (λ (y : Field) (xs : List ℕ). lay (map (value y) kept) xs) old x

  -- a record stored at the next place is laid over the columns as the others are
  pub store_laid : (r : Record) (n : ℕ) → length kept ≡ n → Fit (suc n) old → store n r (lay_columns kept old) ≡ lay_columns (kept ++ (r ∷ [])) old
  store_laid r n e fit =
      columns_path (λ (x : Field). set (column x (lay_columns kept old)) n (value x r)) (λ (x : Field). lay (map (value x) (kept ++ (r ∷ []))) (column x old))
      (λ x. ap (λ (l : List ℕ). set l n (value x r)) (laid x)
      ∙ lay_more (map (value x) kept) (column x old) n (value x r) 0 (length-map kept (value x) ∙ e) (fit_at fit x)
      ∙ ap (λ (u : List ℕ). lay u (column x old)) (sym (column_snoc (value x) kept r)))

  -- the columns keep their lengths
  pub laid_long : Fit (length kept) old → (x : Field) → length (column x (lay_columns kept old)) ≡ length (column x old)
  laid_long fit x =
      ap length (laid x) ∙ length_lay (map (value x) kept) (column x old) (omega (arith, fit_at fit x, length-map kept (value x)))

  -- the first places hold the records
  pub firsts_laid : firsts (length kept) (lay_columns kept old) ≡ columns_of kept
  firsts_laid =
      columns_path (λ (x : Field). take (length kept) (column x (lay_columns kept old))) (λ (x : Field). map (value x) kept)
      (λ x. ap (take (length kept)) (laid x) ∙ take_lay (map (value x) kept) (column x old) (length kept) (length-map kept (value x)))
