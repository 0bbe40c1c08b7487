-- What the contracts of the functions beneath the exports cite. No promise to a host rests on this file.
--   Asked        the room that is asked for in tables of so many places, where the list has so many records and the sequence so many bytes
--   Tried        the comparison in tables of so many places
--   columns_lent   the columns of a comparison's tables; filled: the first of their records written over a list
--   Shown        how many records of a list are looked at; Gathers: the sides of so many
use Rattle.std.specs.Prelude.{◌≡◌, List, ℕ, zero, suc, ◌+◌, ◌≤◌, ◌<◌, set, take}
use Rattle.sets.specs.Rooms.{max_room}
use Rattle.walk.specs.Walk.{Question}
use Rattle.walk.specs.Columns.{Columns, record_at}
use Rattle.comparison.specs.Answers.{lent_in}
use Rattle.comparison.specs.declared.Tables.{Tables}
use Rattle.records.specs.declared.PbRecord.{PbRecord}
use Rattle.records.specs.declared.answers.PbCompared.{PbCompared}
use Rattle.records.specs.Records.{written, columns_in, ComparedRecords}

-- a room that is allowed and lent
pub record Granted (room listed bytes : ℕ) : Type 0 where
  pub most : room ≤ max_room
  pub records_fit : room ≤ listed
  pub sequence_fits : room ≤ bytes

-- refused where the room itself is to be; else as much of the room as there are places
pub record Asked (room places listed bytes r : ℕ) : Type 0 where
  pub allowed : r ≤ max_room → Granted room listed bytes
  pub whole : Granted room listed bytes → room ≤ places → r ≡ room
  pub part : Granted room listed bytes → places < room → r ≡ places

-- FULL in fewer places than the room says nothing of it, and changes nothing that is lent; any other answer is the one in the room
pub record Tried (Q : Question) (room places : ℕ) (records : List PbRecord) (sequence : List ℕ) (r : PbCompared) (later : List PbRecord) (word : List ℕ) : Type 0 where
  pub answered : (places < room → r.answer ≡ 2 → ⊥) → ComparedRecords Q room records sequence r later word
  pub full : places < room → r.answer ≡ 2 → (room ≤ max_room) × (later ≡ records) × (word ≡ sequence)

abbrev pub columns_lent : Tables → Columns
columns_lent t = (lent_in t).columns

abbrev pub filled : Columns → List PbRecord → ℕ → List PbRecord
filled columns records zero = records
filled columns records (suc i) = set (filled columns records i) i (written (record_at columns i))

-- all of them, or one more than a list may have
pub record Shown (listed r : ℕ) : Type 0 where
  pub whole : listed ≤ max_room → r ≡ listed
  pub long : max_room < listed → r ≡ max_room + 1

pub record Gathers (records : List PbRecord) (n : ℕ) (lefts rights : List ℕ) : Type 0 where
  pub lefts_are : take n lefts ≡ take n (columns_in records).lefts
  pub rights_are : take n rights ≡ take n (columns_in records).rights
