-- What the answers of the check mean, to a host that sees their numbers.
--   IsRefused     the answer is a refusal
--   check_lines   the lines of the refusals: `check_test` goes by them (`check_lines_lem`)
--   Holding       evidence that holds: X and Y are congruent by the list, and every pair holds
--   FailsAt       where evidence fails: the number of pairs where X and Y are not congruent by the list, else the lowest failing pair
--   HonestCheck   what an answer means (`check_honest`)
use Rattle.std.specs.Prelude.{◌≡◌, ◌↔◌, ℕ, ◌≤◌, ◌<◌, length, Result, Ok, Err}
use Rattle.verdict.specs.declared.Refusal.{Refusal}
use Rattle.verdict.specs.Lines.{Lines, Applies}
use Rattle.verdict.specs.Lines.Lines.{none, line}
use Rattle.sets.specs.Sets.{Good}
use Rattle.sets.specs.Rooms.{max_room}
use Rattle.pattern.specs.Pattern.{AllGood}
use Rattle.pattern.specs.Refusals.{MasksGood, shape_lines}
use Rattle.pattern.specs.Language.{SameLanguage}
use Rattle.evidence.specs.Evidence.{Offer, ValidOffer, Starts, HoldsAt, HoldBelow, number_of, place_of}
use Rattle.evidence.specs.declared.Answer.{Answer}

abbrev pub IsRefused : Result Answer Refusal → Type 0
IsRefused (Ok answer) = ⊥
IsRefused (Err why) = Unit {0}

-- ---- the refusals

-- X, Y and both sides of all pairs are sets of the pattern's states
abbrev pub PairsGood : Offer → Type 0
PairsGood o = Good o.pattern.states o.x × Good o.pattern.states o.y × AllGood o.pattern.states o.lefts × AllGood o.pattern.states o.rights

-- 10, 11, 16, 12
abbrev pub check_lines : Offer → Lines
check_lines o =
    shape_lines o.pattern
    (line 16 ((length o.lefts ≤ max_room) × (length o.lefts ≡ length o.rights))
    (line 12 (MasksGood o.pattern × PairsGood o) none))

-- ---- the evidence

pub record Holding (o : Offer) : Type 0 where
  pub starts : Starts o.lefts o.rights o.x o.y
  pub pairs : HoldBelow o.pattern o.lefts o.rights (length o.lefts)

pub data FailsAt (o : Offer) : ℕ → Type 0 where
  unstarted : (Starts o.lefts o.rights o.x o.y → ⊥) → FailsAt o (length o.lefts)
  lowest : {i : ℕ} → Starts o.lefts o.rights o.x o.y → i < length o.lefts → HoldBelow o.pattern o.lefts o.rights i
      → (HoldsAt o.pattern o.lefts o.rights i → ⊥) → FailsAt o i

-- 5 PROVED exactly where the evidence holds, and then the languages are equal, whoever wrote the list; 6 NOT-PROVED with its place exactly where
-- it fails there; a refusal, 10 and up, exactly where a line applies, by its number. The place is 0 but for NOT-PROVED.
pub record HonestCheck (o : Offer) (a : Result Answer Refusal) : Type 0 where
  pub proved : (number_of a ≡ 5) ↔ (ValidOffer o × Holding o)
  pub same : number_of a ≡ 5 → SameLanguage o.pattern o.x o.y
  pub not_proved : (place : ℕ) → ((number_of a ≡ 6) × (place_of a ≡ place)) ↔ (ValidOffer o × FailsAt o place)
  pub refused : IsRefused a ↔ (ValidOffer o → ⊥)
  pub refused_by : (w : ℕ) → (IsRefused a × (number_of a ≡ w)) ↔ Applies (check_lines o) w
  pub high : IsRefused a → 10 ≤ number_of a
  pub no_place : (number_of a ≡ 6 → ⊥) → place_of a ≡ 0
