-- What `check` answers and prints (the scope, §10), for all bytes that it can take in, and what it leaves in all that it is lent.
--   most_rooms              the buffers of who asks: no file finds too little room in them
--   Offers input o          the bytes taken in are the evidence file of the offer o, and of no other (`one_offer`); it is a valid one (`offers_valid`)
--   Refuses input w place   reading them gives the refusal w at a place; every input is one or the other (`offers_or_refuses`), and none is both
--   Suffices old            the buffers lent are as long
--   Answers input old asked new
--                           what is answered, and what the buffers then hold: nothing is left open (`answers_determined`)
--   Prints input text       the line printed: one text for each input (`prints_determined`), which no byte from 40,995 on changes
--                           (`cap_prints_the_same`); PROVED is printed only where the languages are equal (`proved_means_same`)
--   longest                 no text is longer
--   Reported input old r new
--                           the text stands at the start of the byte buffer, r bytes, and the rest is as it was (`reports_determined`)
--   Leaves                  what all else that is lent holds then
use Rattle.std.specs.Prelude.{◌≡◌, List, [], ◌∷◌, ℕ, ◌*◌, ◌≤◌, length, take, Result, Ok, Err}
use Rattle.verdict.specs.declared.Fault.{Fault}
use Rattle.verdict.specs.Refusals.{number}
use Rattle.lent.specs.Lent.{Put}
use Rattle.sets.specs.Rooms.{max_room}
use Rattle.numbers.specs.Format.{refused, file_reading}
use Rattle.evidence.specs.Evidence.{Offer, Checked}
use Rattle.evidence.specs.declared.Answer.{Answer}
use Rattle.evidence.specs.declared.Answer.TheVariants.{Proved, NotProved}
use Rattle.evidencefile.specs.EvidenceFile.{Rooms, Lists, lay_offer, evidence_format}
use Rattle.evidencefile.specs.Reader.{FileOf}
use Rattle.text.specs.Text.{word, decimal, line, refusal_text}

-- a row for each of 64 states and 32 letters, and sides for as many pairs as a list may have
abbrev pub most_rooms : Rooms
most_rooms = record { rows = 64 * 32; lefts = max_room; rights = max_room }

abbrev pub Offers : List ℕ → Offer → Type 0
Offers input o = FileOf most_rooms input o

abbrev pub Refuses : List ℕ → ℕ → ℕ → Type 0
Refuses input w place = file_reading (evidence_format most_rooms) input ≡ refused w place

pub record Suffices (old : Lists) : Type 0 where
  pub rows_are : length old.rows ≡ 64 * 32
  pub lefts_are : length old.lefts ≡ max_room
  pub rights_are : length old.rights ≡ max_room

-- the check's answer, or the reader's refusal and its place
abbrev pub Asked : Type 0
Asked = Result Answer Fault

-- a refusal changes nothing; else the rows and the sides lie over what was there
pub data Answers (input : List ℕ) (old : Lists) : Asked → Lists → Type 0 where
  refuses : {fault : Fault} → Refuses input (number fault.why) fault.place → Answers input old (Err fault) old
  answers : {o : Offer} {a : Answer} → Offers input o → Checked o (Ok a) → Answers input old (Ok a) (lay_offer o old)

unfoldable pub proved_text : List ℕ
proved_text = line (word "PROVED" ∷ [])

unfoldable pub not_proved_text : ℕ → List ℕ
not_proved_text place = line (word "NOT-PROVED" ∷ decimal place ∷ [])

pub data Prints (input : List ℕ) : List ℕ → Type 0 where
  refuses : {number place : ℕ} → Refuses input number place → Prints input (refusal_text number place)
  proved : {o : Offer} → Offers input o → Checked o (Ok Proved) → Prints input proved_text
  not_proved : {o : Offer} {place : ℕ} → Offers input o → Checked o (Ok (NotProved place)) → Prints input (not_proved_text place)

-- REFUSED and two numbers of at most 20 digits
abbrev pub longest : ℕ
longest = 50

-- the last two parts follow from `put`; a caller needs them to lend `&out[..r]`
pub record Reported (input old : List ℕ) (r : ℕ) (new : List ℕ) : Type 0 where
  pub text : List ℕ
  pub prints : Prints input text
  pub put : Put old 0 text r new
  pub within : r ≤ length new
  pub counted : r ≡ length (take r new)

-- the rows and the sides are those of what was answered
abbrev pub Leaves : List ℕ → Lists → Lists → Type 0
Leaves input old new = (asked : Asked) × Answers input old asked new
