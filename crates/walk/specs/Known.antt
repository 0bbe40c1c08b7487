-- The scope's questions with known answers (§11).
use Rattle.std.specs.Prelude.{List, [], ◌∷◌, ℕ}
use Rattle.congruence.specs.Congruence.{Listed}
use Rattle.congruence.specs.Closing.{Closes}
use Rattle.walk.specs.Walk.{Question, question_of, Record, lefts_of, rights_of, Outcome, Walk}
use Rattle.walk.specs.Walk.Outcome.{Same, Different, Full}

abbrev pub A : ℕ → ℕ → Question
A x y = question_of 3 1 5 (2 ∷ 1 ∷ 4 ∷ []) x y

abbrev pub B : ℕ → ℕ → Question
B x y = question_of 6 1 18 (2 ∷ 4 ∷ 3 ∷ 48 ∷ 32 ∷ 8 ∷ []) x y

abbrev pub C : ℕ → ℕ → Question
C x y = question_of 4 1 9 (3 ∷ 4 ∷ 0 ∷ 8 ∷ []) x y

abbrev pub D : ℕ → ℕ → Question
D x y = question_of 2 2 2 (0 ∷ 2 ∷ 0 ∷ 0 ∷ []) x y

-- a question in a room, and the outcome of its walk; or a list of pairs, a set, and what it closes to
pub data Row : Type 0 where
  asks : Question → ℕ → Outcome → Row
  closes : List Record → ℕ → ℕ → Row

-- a kept record: left, right, parent, letter
abbrev pub pair : ℕ → ℕ → ℕ → ℕ → Record
pair a b parent letter = record { left = a; right = b; parent = parent; letter = letter }

abbrev pub table : List Row
table =
    asks (A 1 4) 1 (Different (pair 1 4 0 0 ∷ []) 2 (0 ∷ []))
    ∷ asks (A 1 4) 0 (Full [] 1)
    ∷ asks (A 2 4) 0 (Different [] 1 [])
    ∷ asks (A 3 4) 1 (Same (pair 3 4 0 0 ∷ []) 2)
    ∷ asks (A 0 0) 0 (Same [] 1)
    ∷ asks (B 1 8) 3 (Same (pair 1 8 0 0 ∷ pair 2 48 0 0 ∷ pair 4 40 1 0 ∷ []) 4)
    ∷ asks (B 1 8) 2 (Full (pair 1 8 0 0 ∷ pair 2 48 0 0 ∷ []) 3)
    ∷ asks (C 1 8) 3 (Same (pair 1 8 0 0 ∷ pair 3 8 0 0 ∷ pair 7 8 1 0 ∷ []) 4)
    ∷ asks (D 1 0) 1 (Different (pair 1 0 0 0 ∷ []) 3 (1 ∷ []))
    ∷ closes (pair 2 4 0 0 ∷ pair 1 2 0 0 ∷ []) 1 7
    ∷ closes (pair 2 4 0 0 ∷ pair 1 2 0 0 ∷ []) 4 7
    ∷ []

abbrev pub Holds : Row → Type 0
Holds (asks Q room o) = Walk Q room o
Holds (closes pairs set closed) = Closes (Listed (lefts_of pairs) (rights_of pairs)) set closed

-- each row holds
pub data Known : List Row → Type 0 where
  done : Known []
  row : {r : Row} {rows : List Row} → Holds r → Known rows → Known (r ∷ rows)
