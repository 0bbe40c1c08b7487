-- The comparison over a list of records gives what the comparison over lists of numbers gives for its columns, and so does the one-way question.
-- Assumes nothing.
use mathlib.Core.Path.{◌≡◌, refl, sym, ap, ap₂, ◌∙◌, subst}
use mathlib.Core.List.{List, [], ◌∷◌, ◌++◌, map, map-append}
use Prim.Native.Nat.{ℕ, zero, suc}
use native.Mathlib.Omega.{arith}
use lib.ListN.{length, get_or, drop, take, length-map}
use Rattle.lent.specs.Lent.{lay}
use Rattle.walk.specs.Walk.{Question, Record, kept_of, word_of}
use Rattle.walk.specs.Columns.{Field, value, column, firsts}
use Rattle.walk.proofs.Columns.{column_by, record_path, columns_path}
use Rattle.std.specs.Prelude.{Err}
use Rattle.comparison.specs.Answers.{Answered, Lent, answer_of, lay_out, Compared}
use Rattle.comparison.specs.Answers.Compared.{refuses, walks}
use Rattle.comparison.specs.Inclusion.{AnsweredOneWay, answered_one_way, Included}
use Rattle.comparison.proofs.Standing.{lent_path}
use Rattle.comparison.proofs.CompareDetermined.{compare_determined}
use Rattle.comparison.proofs.WithinDetermined.{within_determined}
use Rattle.records.specs.declared.PbRecord.{PbRecord}
use Rattle.records.specs.declared.answers.PbCompared.{PbCompared}
use Rattle.records.specs.Answers.{compare_answer, ComparedLists, inclusion_answer, IncludedLists}
use Rattle.records.specs.Records.{written, value_in, columns_in, lent_for, call_on, lay_records, ComparedRecords, IncludedRecords}

-- ---- the columns of a host's list

-- each is as long as the list
pub column_in : (records : List PbRecord) (x : Field) → length (column x (columns_in records)) ≡ length records
column_in records x = ap length (column_by (λ (y : Field). map (value_in y) records) x) ∙ length-map records (value_in x)

take_map : (f : PbRecord → ℕ) (n : ℕ) (rs : List PbRecord) → map f (take n rs) ≡ take n (map f rs)
take_map f zero rs = refl
take_map f (suc n) [] = refl
take_map f (suc n) (r ∷ rs) = ap (λ (t : List ℕ). f r ∷ t) (take_map f n rs)

-- a list is known by its columns
known_by : (rs qs : List PbRecord) → ((x : Field) → map (value_in x) rs ≡ map (value_in x) qs) → rs ≡ qs
known_by [] [] f = refl
known_by [] (q ∷ qs) f = absurd (omega (arith, ap length (f Field.left)))
known_by (r ∷ rs) [] f = absurd (omega (arith, ap length (f Field.left)))
known_by (r ∷ rs) (q ∷ qs) f =
    ap₂ (λ (h : PbRecord) (t : List PbRecord). h ∷ t)
    (ap written (record_path (λ (x : Field). value_in x r) (λ (x : Field). value_in x q) (λ x. ap (λ (l : List ℕ). get_or l 0 0) (f x))))
    (known_by rs qs (λ x. ap (drop 1) (f x)))

-- the columns of the first records are the first places of the columns
pub columns_first : (n : ℕ) (rs : List PbRecord) → columns_in (take n rs) ≡ firsts n (columns_in rs)
columns_first n rs =
    columns_path (λ (x : Field). map (value_in x) (take n rs)) (λ (x : Field). take n (column x (columns_in rs)))
    (λ x. take_map (value_in x) n rs ∙ ap (take n) (sym (column_by (λ (y : Field). map (value_in y) rs) x)))

-- two lists with the same first places in every column have the same first records
pub firsts_known : (n : ℕ) (rs qs : List PbRecord) → firsts n (columns_in rs) ≡ firsts n (columns_in qs) → take n rs ≡ take n qs
firsts_known n rs qs e = known_by (take n rs) (take n qs) (λ x. first rs x ∙ ap (column x) (columns_first n rs ∙ e ∙ sym (columns_first n qs)) ∙ sym (first qs x))
  where
    first : (rs : List PbRecord) (x : Field) → map (value_in x) (take n rs) ≡ column x (columns_in (take n rs))
    first rs x = sym (column_by (λ (y : Field). map (value_in y) (take n rs)) x)

-- ---- the columns of the records that are laid are the columns that are laid

map_drop : (f : PbRecord → ℕ) (n : ℕ) (rs : List PbRecord) → map f (drop n rs) ≡ drop n (map f rs)
map_drop f zero rs = refl
map_drop f (suc n) [] = refl
map_drop f (suc n) (r ∷ rs) = map_drop f n rs

pub map_written : (x : Field) (kept : List Record) → map (value_in x) (map written kept) ≡ map (value x) kept
map_written x [] = refl
map_written x (k ∷ kept) = ap (λ (t : List ℕ). value x k ∷ t) (map_written x kept)

column_laid : (kept : List Record) (old : List PbRecord) (x : Field) → map (value_in x) (lay_records kept old) ≡ lay (map (value x) kept) (map (value_in x) old)
unfolding lay
column_laid kept old x =
    map-append (value_in x) (map written kept) (drop (length (map written kept)) old)
    ∙ ap₂ (λ (a b : List ℕ). a ++ b) (map_written x kept)
    (map_drop (value_in x) (length (map written kept)) old
    ∙ ap (λ (n : ℕ). drop n (map (value_in x) old)) (length-map kept written ∙ sym (length-map kept (value x))))

lent_laid : (kept : List Record) (word : List ℕ) (records : List PbRecord) (sequence : List ℕ)
    → lent_for (lay_records kept records) (lay word sequence) ≡ lay_out kept word (lent_for records sequence)
lent_laid kept word records sequence =
    lent_path
    (columns_path (λ (x : Field). map (value_in x) (lay_records kept records)) (λ (x : Field). lay (map (value x) kept) (column x (columns_in records)))
    (λ x. column_laid kept records x ∙ ap (lay (map (value x) kept)) (sym (column_by (λ (y : Field). map (value_in y) records) x))))
    refl

-- ---- the two calls

-- what the call over records answers and leaves is what the call over its columns does
pub pb_compare_by_columns : {Q : Question} {room : ℕ} {records : List PbRecord} {sequence : List ℕ} {r : PbCompared} {later : List PbRecord} {word : List ℕ}
    → ComparedRecords Q room records sequence r later word → ComparedLists (call_on Q room records sequence) r (lent_for later word)
pb_compare_by_columns (ComparedRecords.refuses why e) = record { answer = Err why; compared = refuses e; answers = refl }
pb_compare_by_columns {Q} {room} {records} {sequence} (ComparedRecords.walks {o} e w) =
    record {
      answer = answer_of o;
      compared = subst (Compared (call_on Q room records sequence) (answer_of o)) (sym (lent_laid (kept_of o) (word_of o) records sequence)) (walks e w);
      answers = refl;
    }

-- and the call over records can answer and leave whatever the call over its columns can
pub pb_compare_from_columns : {Q : Question} {room : ℕ} {records : List PbRecord} {sequence : List ℕ} {a : Answered} {left : Lent}
    → Compared (call_on Q room records sequence) a left → (later : List PbRecord) × (word : List ℕ) × ComparedRecords Q room records sequence (compare_answer a) later word
pb_compare_from_columns {records = records} {sequence} (refuses {why} e) = (records, sequence, ComparedRecords.refuses why e)
pb_compare_from_columns {records = records} {sequence} (walks {o} e w) = (lay_records (kept_of o) records, lay (word_of o) sequence, ComparedRecords.walks e w)

-- the same answer and numbers as over the columns, and the columns of the records afterwards are what is left there
pub pb_compare_agrees : {Q : Question} {room : ℕ} {records : List PbRecord} {sequence : List ℕ} {r s : PbCompared} {later : List PbRecord} {word : List ℕ} {left : Lent}
    → ComparedRecords Q room records sequence r later word → ComparedLists (call_on Q room records sequence) s left → (r ≡ s) × (lent_for later word ≡ left)
pb_compare_agrees e c =
    let by = pb_compare_by_columns e in
    let same = compare_determined by.compared c.compared in
    (by.answers ∙ ap compare_answer same.0 ∙ sym c.answers, same.1)

-- ---- the two calls of the one-way question

pub pb_within_by_columns : {Q : Question} {room : ℕ} {records : List PbRecord} {sequence : List ℕ} {r : PbCompared} {later : List PbRecord} {word : List ℕ}
    → IncludedRecords Q room records sequence r later word → IncludedLists (call_on Q room records sequence) r (lent_for later word)
pb_within_by_columns (IncludedRecords.refuses why e) = record { answer = Err why; included = Included.refuses e; answers = refl }
pb_within_by_columns {Q} {room} {records} {sequence} (IncludedRecords.walks {o} e w) =
    record {
      answer = answered_one_way (answer_of o);
      included = subst (Included (call_on Q room records sequence) (answered_one_way (answer_of o))) (sym (lent_laid (kept_of o) (word_of o) records sequence)) (Included.walks e w);
      answers = refl;
    }

pub pb_within_from_columns : {Q : Question} {room : ℕ} {records : List PbRecord} {sequence : List ℕ} {a : AnsweredOneWay} {left : Lent}
    → Included (call_on Q room records sequence) a left → (later : List PbRecord) × (word : List ℕ) × IncludedRecords Q room records sequence (inclusion_answer a) later word
pb_within_from_columns {records = records} {sequence} (Included.refuses {why} e) = (records, sequence, IncludedRecords.refuses why e)
pb_within_from_columns {records = records} {sequence} (Included.walks {o} e w) = (lay_records (kept_of o) records, lay (word_of o) sequence, IncludedRecords.walks e w)

pub pb_within_agrees : {Q : Question} {room : ℕ} {records : List PbRecord} {sequence : List ℕ} {r s : PbCompared} {later : List PbRecord} {word : List ℕ} {left : Lent}
    → IncludedRecords Q room records sequence r later word → IncludedLists (call_on Q room records sequence) s left → (r ≡ s) × (lent_for later word ≡ left)
pb_within_agrees e c =
    let by = pb_within_by_columns e in
    let same = within_determined by.included c.included in
    (by.answers ∙ ap inclusion_answer same.0 ∙ sym c.answers, same.1)
