-- A list of records, column by column: one list of numbers for each field of a record. Only this file and its laws name all the columns.
--   Field, value          a field of a record, and what a record has there
--   Columns, column       the columns together, and the column of a field
--   columns_by, record_by   columns from a list for each field, and a record from a number for each field
--   each_column           every column changed, by its field
--   columns_of, record_at   the columns of a list of records, and the record that stands at a place of columns
--   lay_columns           records laid over the first places, the rest as it was; store: one record at a place
--   firsts                the first places of every column
--   Fit                   no column is shorter than the room; lengths: how long each is
use Rattle.std.specs.Prelude.{List, [], ◌∷◌, map, ℕ, ◌≤◌, length, get_or, set, take}
use Rattle.lent.specs.Lent.{lay}
use Rattle.walk.specs.Walk.{Record}

pub data Field : Type 0 where
  left : Field
  right : Field
  parent : Field
  letter : Field

abbrev pub fields : List Field
fields = Field.left ∷ Field.right ∷ Field.parent ∷ Field.letter ∷ []

abbrev pub value : Field → Record → ℕ
value Field.left = λ (r : Record). r.left
value Field.right = λ (r : Record). r.right
value Field.parent = λ (r : Record). r.parent
value Field.letter = λ (r : Record). r.letter

abbrev pub record_by : (Field → ℕ) → Record
record_by f = record { left = f Field.left; right = f Field.right; parent = f Field.parent; letter = f Field.letter }

-- `taken` are the letters taken
pub record Columns : Type 0 where
  pub lefts : List ℕ
  pub rights : List ℕ
  pub parents : List ℕ
  pub taken : List ℕ

abbrev pub column : Field → Columns → List ℕ
column Field.left = λ (c : Columns). c.lefts
column Field.right = λ (c : Columns). c.rights
column Field.parent = λ (c : Columns). c.parents
column Field.letter = λ (c : Columns). c.taken

abbrev pub columns_by : (Field → List ℕ) → Columns
columns_by f = record { lefts = f Field.left; rights = f Field.right; parents = f Field.parent; taken = f Field.letter }

abbrev pub each_column : (Field → List ℕ → List ℕ) → Columns → Columns
each_column f c = columns_by (λ (x : Field). f x (column x c))

abbrev pub columns_of : List Record → Columns
columns_of kept = columns_by (λ (x : Field). map (value x) kept)

abbrev pub record_at : Columns → ℕ → Record
record_at c i = record_by (λ (x : Field). get_or (column x c) i 0)

abbrev pub lay_columns : List Record → Columns → Columns
lay_columns kept = each_column (λ (x : Field) (old : List ℕ). lay (map (value x) kept) old)

abbrev pub store : ℕ → Record → Columns → Columns
store n r = each_column (λ (x : Field) (old : List ℕ). set old n (value x r))

abbrev pub firsts : ℕ → Columns → Columns
firsts n = each_column (λ (x : Field) (old : List ℕ). take n old)

abbrev pub lengths : Columns → List ℕ
lengths c = map (λ (x : Field). length (column x c)) fields

pub record Fit (room : ℕ) (c : Columns) : Type 0 where
  pub lefts : room ≤ length c.lefts
  pub rights : room ≤ length c.rights
  pub parents : room ≤ length c.parents
  pub taken : room ≤ length c.taken
