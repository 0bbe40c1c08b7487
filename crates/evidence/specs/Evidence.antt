-- Evidence: somebody offers a list of pairs to show that X and Y have one language. Whoever wrote it, PROVED means that they have (`evidence_means_same`).
--   Offer        what is offered: a pattern, X and Y, and the two sides of the list
--   Starts       the starting pair is in order: X and Y are congruent by the list
--   Holds        a pair agrees on the empty sequence and has, for each letter, successors congruent by the list: it progresses
--   HoldsAt i    pair i of the list holds; HoldBelow i: pairs 0 to i - 1 do
--   check_test   what is refused, in the order 10, 11, 16, 12
--   ValidOffer   an offer that is not refused (`offer_valid`)
--   Checked      what the check answers: one answer to each offer (`check_determined`)
--   number_of, place_of   the scope's number of an answer, and the place returned with it; what they mean stands in specs/Meaning
use Rattle.std.specs.Prelude.{◌≡◌, ◌&&◌, List, [], ◌∷◌, ℕ, ◌≤◌, ◌<◌, length, get_or, leb, eqb, Result, Ok, Err}
use Rattle.verdict.specs.declared.Refusal.{Refusal}
use Rattle.verdict.specs.Refusals.{number}
use Rattle.verdict.specs.Verdict.{Verdict}
use Rattle.verdict.specs.Verdict.Verdict.{Fine, Against}
use Rattle.verdict.specs.Tests.{need, in_order, each}
use Rattle.sets.specs.Sets.{Good}
use Rattle.sets.specs.Rooms.{max_room}
use Rattle.pattern.specs.Pattern.{Pattern, pattern_of, AllGood, Valid}
use Rattle.pattern.specs.Tests.{shape_test, masks_test, set_test}
use Rattle.congruence.specs.Congruence.{Congruent, Listed}
use Rattle.congruence.specs.Progress.{Progresses}
use Rattle.evidence.specs.declared.Answer.{Answer}
use Rattle.evidence.specs.declared.Answer.TheVariants.{Proved, NotProved}

pub record Offer : Type 0 where
  pub pattern : Pattern
  pub x : ℕ
  pub y : ℕ
  pub lefts : List ℕ
  pub rights : List ℕ

abbrev pub offer_of : ℕ → ℕ → ℕ → List ℕ → ℕ → ℕ → List ℕ → List ℕ → Offer
offer_of n k finals rows x y lefts rights = record { pattern = pattern_of n k finals rows; x = x; y = y; lefts = lefts; rights = rights }

-- ---- the pairs

abbrev pub Starts : List ℕ → List ℕ → ℕ → ℕ → Type 0
Starts lefts rights x y = Congruent (Listed lefts rights) x y

abbrev pub Holds : Pattern → List ℕ → List ℕ → ℕ → ℕ → Type 0
Holds P lefts rights a b = Progresses P (Listed lefts rights) a b

abbrev pub HoldsAt : Pattern → List ℕ → List ℕ → ℕ → Type 0
HoldsAt P lefts rights i = Holds P lefts rights (get_or lefts i 0) (get_or rights i 0)

abbrev pub HoldBelow : Pattern → List ℕ → List ℕ → ℕ → Type 0
HoldBelow P lefts rights i = (j : ℕ) → j < i → HoldsAt P lefts rights j

-- ---- the refusals

-- 16 BAD-LIST: at most as many pairs as the largest room, and two sides of one length
unfoldable pub list_test : ℕ → ℕ → Verdict
list_test lefts rights = need (leb lefts max_room && eqb lefts rights) 16

-- 12 BAD-SET: X, Y, and both sides of all pairs
unfoldable pub pairs_test : ℕ → ℕ → ℕ → List ℕ → List ℕ → Verdict
pairs_test n x y lefts rights = in_order (set_test n x ∷ set_test n y ∷ each (set_test n) lefts ∷ each (set_test n) rights ∷ [])

unfoldable pub check_test : Offer → Verdict
check_test o =
    in_order
    (shape_test o.pattern
    ∷ list_test (length o.lefts) (length o.rights)
    ∷ masks_test o.pattern
    ∷ pairs_test o.pattern.states o.x o.y o.lefts o.rights
    ∷ [])

pub record ValidOffer (o : Offer) : Type 0 where
  pub pattern : Valid o.pattern
  pub pairs_fit : length o.lefts ≤ max_room
  pub sides_match : length o.lefts ≡ length o.rights
  pub x_good : Good o.pattern.states o.x
  pub y_good : Good o.pattern.states o.y
  pub lefts_good : AllGood o.pattern.states o.lefts
  pub rights_good : AllGood o.pattern.states o.rights

-- ---- the answer

-- the starting pair in order: PROVED where all pairs hold, else the place is the lowest failing pair
pub data ByPairs (P : Pattern) (lefts rights : List ℕ) : Answer → Type 0 where
  all_hold : HoldBelow P lefts rights (length lefts) → ByPairs P lefts rights Proved
  fails : {i : ℕ} → i < length lefts → HoldBelow P lefts rights i → (HoldsAt P lefts rights i → ⊥) → ByPairs P lefts rights (NotProved i)

-- the starting pair is looked at first: where it is not in order, the place is the number of pairs, whatever the pairs do
pub data Checked (o : Offer) : Result Answer Refusal → Type 0 where
  refuses : {why : Refusal} → check_test o ≡ Against (number why) → Checked o (Err why)
  not_started : check_test o ≡ Fine → (Starts o.lefts o.rights o.x o.y → ⊥) → Checked o (Ok (NotProved (length o.lefts)))
  started : {r : Answer} → check_test o ≡ Fine → Starts o.lefts o.rights o.x o.y → ByPairs o.pattern o.lefts o.rights r → Checked o (Ok r)

-- 5 PROVED, 6 NOT-PROVED, or the refusal
abbrev pub number_of : Result Answer Refusal → ℕ
number_of (Ok Proved) = 5
number_of (Ok (NotProved place)) = 6
number_of (Err why) = number why

abbrev pub place_of : Result Answer Refusal → ℕ
place_of (Ok Proved) = 0
place_of (Ok (NotProved place)) = place
place_of (Err why) = 0
