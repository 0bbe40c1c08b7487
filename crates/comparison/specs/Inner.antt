-- What the contracts of the private functions cite. No promise to a host rests on this file.
--   Spellable, Spelt   a path that can be written as a sequence, and the sequence written; Spells: the same in the code's tables
--   Lists              the two sides of the first records, as the code's pairs
--   Proposable, Proposed
--                      a number that has a candidate, and the candidate as the code makes it
--   records_of         the first records of the lent list; standing: the position that they make
--   Ready, DealtWith   a position from which the walk can go on, and what dealing with one candidate leaves
--   Deals              the same, of the code's question and tables, which are of the same slices
use Rattle.std.specs.Prelude.{◌≡◌, List, [], ◌∷◌, ◌++◌, ℕ, zero, suc, ◌+◌, ◌*◌, ◌≤◌, ◌<◌, length, get_or, take}
use Rattle.lent.specs.Lent.{lay}
use Rattle.pattern.specs.declared.Question.{Question as Asked}
use Rattle.pattern.specs.Pattern.{Pattern, Tabled, Valid}
use Rattle.walk.specs.Walk.{Question, Record, lefts_of, rights_of, candidate, Position, upcoming, Remains, skip, keep, Moves, Path, Ends}
use Rattle.walk.specs.Walk.Outcome.{Different, Full}
use Rattle.walk.specs.Columns.{Columns, record_at, store}
use Rattle.comparison.specs.Answers.{Lent, Call, lent_in, call_in, SameTables}
use Rattle.comparison.specs.Meaning.{Roomy}
use Rattle.comparison.specs.declared.Dealt.{Dealt}
use Rattle.comparison.specs.declared.Candidate.{Candidate}
use Rattle.comparison.specs.declared.Tables.{Tables}
use Rattle.congruence.specs.declared.Pairs.{Pairs}

-- the path of a record, and one letter after it, fit the sequence bytes
pub record Spellable (parents taken : List ℕ) (from : ℕ) (sequence : List ℕ) : Type 0 where
  pub alike : length parents ≡ length taken
  pub word : List ℕ
  pub path : Path parents taken from word
  pub fits : length word < length sequence

-- the path and the letter `last` stand first in the sequence bytes, and r is how many they are
pub record Spelt (parents taken : List ℕ) (from last : ℕ) (old new : List ℕ) (r : ℕ) : Type 0 where
  pub all : (w : List ℕ) → Path parents taken from w → (r ≡ length w + 1) × (new ≡ lay (w ++ (last ∷ [])) old)

-- the same of the code's tables, by the first n records: nothing but the sequence is written
pub record Spells (old : Tables) (n from last r : ℕ) (new : Tables) : Type 0 where
  pub spelt : Spelt (take n old.parents.now) (take n old.taken.now) from last old.sequence.now new.sequence.now r
  pub columns_kept : (lent_in new).columns ≡ (lent_in old).columns
  pub same_tables : SameTables old new

-- the two sides of the first n records
pub record Lists (t : Tables) (n : ℕ) (listed : Pairs) : Type 0 where
  pub lefts_are : listed.lefts.now ≡ take n t.lefts.now
  pub rights_are : listed.rights.now ≡ take n t.rights.now

abbrev pub record_of : Candidate → Record
record_of r = record { left = r.left; right = r.right; parent = r.parent; letter = r.letter }

-- a table of rows, and a candidate of that number for the records that have these left sides
pub record Proposable (P : Pattern) (lefts : List ℕ) (examined : ℕ) : Type 0 where
  pub states_fit : P.states ≤ 64
  pub some_letter : 1 ≤ P.letters
  pub tabled : Tabled P
  pub remains : examined < 1 + P.letters * length lefts

-- by the two sides of the records alone
pub record Proposed (Q : Question) (lefts rights : List ℕ) (examined : ℕ) (r : Candidate) : Type 0 where
  pub all : (kept : List Record) → lefts_of kept ≡ lefts → rights_of kept ≡ rights → record_of r ≡ candidate Q kept examined

unfoldable pub records_of : Columns → ℕ → List Record
records_of l zero = []
records_of l (suc n) = records_of l n ++ (record_at l n ∷ [])

abbrev pub standing : Lent → ℕ → ℕ → Position
standing l kept examined = record { kept = records_of l.columns kept; examined = examined }

-- each record but the first has an earlier parent
pub record Ready (c : Call) (kept examined : ℕ) : Type 0 where
  pub valid : Valid c.question.pattern
  pub roomy : Roomy c.room c.lent
  pub within : kept ≤ c.room
  pub remains : Remains c.question (standing c.lent kept examined)
  pub earlier : (i : ℕ) → 0 < i → i < kept → get_or c.lent.columns.parents i 0 < i

-- a record stored at place n; a word written over the sequence bytes
abbrev pub keep_at : ℕ → Record → Lent → Lent
keep_at n r l = record { columns = store n r l.columns; sequence = l.sequence }

abbrev pub write : List ℕ → Lent → Lent
write w l = record { columns = l.columns; sequence = lay w l.sequence }

pub data DealtWith (c : Call) (n e : ℕ) : Dealt → Lent → Type 0 where
  skips : Moves c.question c.room (standing c.lent n e) (skip (standing c.lent n e)) → DealtWith c n e (Dealt.On n) c.lent
  keeps : Moves c.question c.room (standing c.lent n e) (keep c.question (standing c.lent n e))
      → DealtWith c n e (Dealt.On (n + 1)) (keep_at n (upcoming c.question (standing c.lent n e)) c.lent)
  tells : {w : List ℕ} → Ends c.question c.room (standing c.lent n e) (Different (records_of c.lent.columns n) (suc e) w)
      → DealtWith c n e (Dealt.Different (length w)) (write w c.lent)
  fills : Ends c.question c.room (standing c.lent n e) (Full (records_of c.lent.columns n) (suc e)) → DealtWith c n e Dealt.Full c.lent

pub record Deals (q : Asked) (room kept examined : ℕ) (old : Tables) (dealt : Dealt) (new : Tables) : Type 0 where
  pub dealt_with : DealtWith (call_in q room old) kept examined dealt (lent_in new)
  pub same_tables : SameTables old new
