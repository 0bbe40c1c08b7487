-- Where and why reading stops.
--   EndsEarly i bytes       the data ends before a number's last byte: 20 CUT (`cut_exactly`)
--   BadlyWritten Bad i bytes
--                           one of a number's bytes is bad, and those before it say that another follows
--   Padded i bytes          the bad byte is a last group of 0 after at least one other: 21 PADDED (`padded_exactly`), which adds nothing
--                           (`padded_is_needless`)
--   TooBig i bytes          the bad byte is a tenth byte other than 00 or 01: 23 TOO-BIG (`too_big_exactly`), so that the value is
--                           2 ^ 64 or more (`too_big_is_big`), or has no end within ten bytes
--   worth bytes             what their groups are worth, lowest first
--   After f us g            what is left of a format behind some numbers that it takes
--   StoppedBy s w place f   why reading a format stops at a place, with the refusal w
--   Stops f s at w place    reading from a place on stops there, and all numbers before it are right (`first_fault`)
use Rattle.std.specs.Prelude.{ℕ, ◌+◌, ◌*◌, ◌%◌, ◌^◌, ◌<◌, ◌≤◌, List, [], ◌∷◌, ◌++◌, ◌≡◌, length, drop, get_or}
use Rattle.verdict.specs.Verdict.{Verdict}
use Rattle.verdict.specs.Verdict.Verdict.{Fine, Against}
use Rattle.numbers.specs.Numbers.{number_at}
use Rattle.numbers.specs.Numbers.Number.{Value, Fault}
use Rattle.numbers.specs.Format.{Format, ended, item, gate, encode_all}

-- fewer than ten bytes are left, from byte number i on, and each says that another follows
pub record EndsEarly (i : ℕ) (bs : List ℕ) : Type 0 where
  pub few : i + length bs < 10
  pub go_on : (j : ℕ) → j < length bs → 128 ≤ get_or bs j 0

-- byte number i, from 0, is a last group of 0 after at least one other
pub record Needless (i b : ℕ) : Type 0 where
  pub later : 0 < i
  pub nothing : b ≡ 0

-- byte number i, from 0, is a tenth byte other than 00 or 01
pub record Beyond (i b : ℕ) : Type 0 where
  pub tenth : i ≡ 9
  pub other : 1 < b

-- a number badly written: after bytes that say that another follows, one of the first ten is bad
pub record BadlyWritten (Bad : ℕ → ℕ → Type 0) (i : ℕ) (bs : List ℕ) : Type 0 where
  pub j : ℕ
  pub there : j < length bs
  pub among : i + j < 10
  pub go_on : (m : ℕ) → m < j → 128 ≤ get_or bs m 0
  pub bad : Bad (i + j) (get_or bs j 0)

abbrev pub Padded : ℕ → List ℕ → Type 0
Padded = BadlyWritten Needless

abbrev pub TooBig : ℕ → List ℕ → Type 0
TooBig = BadlyWritten Beyond

-- the value that groups make, whatever it is
unfoldable pub worth : List ℕ → ℕ
worth [] = 0
worth (b ∷ bs) = b % 128 + worth bs * 128

-- what is left of a format behind some numbers that it takes
pub data After : Format → List ℕ → Format → Type 0 where
  here : {f : Format} → After f [] f
  taken : {test : ℕ → Verdict} {rest : ℕ → Format} {v : ℕ} {us : List ℕ} {g : Format} → v < 2 ^ 64 → test v ≡ Fine → After (rest v) us g → After (item test rest) (v ∷ us) g
  through : {verdict : Verdict} {f : Format} {us : List ℕ} {g : Format} → verdict ≡ Fine → After f us g → After (gate verdict f) us g

-- why reading stops at a place: a number badly formed, a number out of range, a verdict given there, or bytes after the last number
pub data StoppedBy (s : List ℕ) (w place : ℕ) : Format → Type 0 where
  by_form : {test : ℕ → Verdict} {rest : ℕ → Format} → number_at s place ≡ Fault w place → StoppedBy s w place (item test rest)
  by_range : {test : ℕ → Verdict} {rest : ℕ → Format} {v next : ℕ} → number_at s place ≡ Value v next → test v ≡ Against w → StoppedBy s w place (item test rest)
  by_gate : {verdict : Verdict} {rest : Format} → verdict ≡ Against w → StoppedBy s w place (gate verdict rest)
  by_tail : w ≡ 22 → place < length s → StoppedBy s w place ended

-- from place at on
pub record Stops (f : Format) (s : List ℕ) (at w place : ℕ) : Type 0 where
  pub us : List ℕ
  pub left : Format
  pub follows : After f us left
  pub bytes : drop at s ≡ encode_all us ++ drop place s
  pub placed : place ≡ at + length (encode_all us)
  pub stopped : StoppedBy s w place left
