-- The laws of columns: what stands in the column of a field, what is equal field by field, how long the columns are, and growing by one at the
-- end. Assumes nothing.
use mathlib.Core.Path.{◌≡◌, refl, ap, ◌∙◌}
use mathlib.Core.List.{List, [], ◌∷◌, ◌++◌, map, map-append, Memᴰ}
use Prim.Native.Nat.{ℕ, ◌≤◌, ◌<◌}
use native.Mathlib.Omega.{arith}
use lib.ListN.{length, get_or, length-map, get_or-append}
use lib.Seq.{get_or_at}
use Rattle.walk.specs.Walk.{Record}
use Rattle.walk.specs.Columns.{Field, value, record_by, Columns, column, columns_by, each_column, lengths, Fit}

-- ---- by its fields

pub value_by : (f : Field → ℕ) (x : Field) → value x (record_by f) ≡ f x
value_by f Field.left = refl
value_by f Field.right = refl
value_by f Field.parent = refl
value_by f Field.letter = refl

pub column_by : (f : Field → List ℕ) (x : Field) → column x (columns_by f) ≡ f x
column_by f Field.left = refl
column_by f Field.right = refl
column_by f Field.parent = refl
column_by f Field.letter = refl

pub column_each : (f : Field → List ℕ → List ℕ) (c : Columns) (x : Field) → column x (each_column f c) ≡ f x (column x c)
column_each f c x = column_by (λ (y : Field). f y (column y c)) x

pub record_path : (f g : Field → ℕ) → ((x : Field) → f x ≡ g x) → record_by f ≡ record_by g
record_path f g h i = record_by (λ (x : Field). h x i)

pub columns_path : (f g : Field → List ℕ) → ((x : Field) → f x ≡ g x) → columns_by f ≡ columns_by g
columns_path f g h i = columns_by (λ (x : Field). h x i)

-- ---- how long the columns are

pub fit_at : {room : ℕ} {c : Columns} → Fit room c → (x : Field) → room ≤ length (column x c)
fit_at fit Field.left = fit.lefts
fit_at fit Field.right = fit.rights
fit_at fit Field.parent = fit.parents
fit_at fit Field.letter = fit.taken

pub fit_by : {room : ℕ} {c : Columns} → ((x : Field) → room ≤ length (column x c)) → Fit room c
fit_by f = record { lefts = f Field.left; rights = f Field.right; parents = f Field.parent; taken = f Field.letter }

pub fit_less : {room n : ℕ} {c : Columns} → n ≤ room → Fit room c → Fit n c
fit_less h fit = fit_by (λ x. omega (arith, fit_at fit x))

pub in_lengths : (c : Columns) (x : Field) → Memᴰ (length (column x c)) (lengths c)
in_lengths c Field.left = Memᴰ.head refl
in_lengths c Field.right = Memᴰ.tail (Memᴰ.head refl)
in_lengths c Field.parent = Memᴰ.tail (Memᴰ.tail (Memᴰ.head refl))
in_lengths c Field.letter = Memᴰ.tail (Memᴰ.tail (Memᴰ.tail (Memᴰ.head refl)))

pub of_lengths : (c : Columns) {n : ℕ} → Memᴰ n (lengths c) → (x : Field) × (n ≡ length (column x c))
of_lengths c (Memᴰ.head e) = (Field.left, e)
of_lengths c (Memᴰ.tail (Memᴰ.head e)) = (Field.right, e)
of_lengths c (Memᴰ.tail (Memᴰ.tail (Memᴰ.head e))) = (Field.parent, e)
of_lengths c (Memᴰ.tail (Memᴰ.tail (Memᴰ.tail (Memᴰ.head e)))) = (Field.letter, e)
of_lengths c (Memᴰ.tail (Memᴰ.tail (Memᴰ.tail (Memᴰ.tail m)))) = elim m [ ]

-- ---- one record more

module _ (f : Record → ℕ) (kept : List Record) (r : Record) where
  pub column_snoc : map f (kept ++ (r ∷ [])) ≡ map f kept ++ (f r ∷ [])
  column_snoc = map-append f kept (r ∷ [])

  pub column_old : (i : ℕ) → i < length kept → get_or (map f (kept ++ (r ∷ []))) i 0 ≡ get_or (map f kept) i 0
  column_old i l = ap (λ (xs : List ℕ). get_or xs i 0) column_snoc ∙ get_or-append (map f kept) (f r ∷ []) 0 i (rw (length-map kept f) l)

  pub column_new : get_or (map f (kept ++ (r ∷ []))) (length kept) 0 ≡ f r
  column_new = ap (λ (xs : List ℕ). get_or xs (length kept) 0) column_snoc ∙ get_or_at (map f kept) (f r) [] 0 (length kept) (length-map kept f)
