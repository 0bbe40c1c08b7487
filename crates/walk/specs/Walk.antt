-- The walk of the scope (§5), as a relation. It cites congruence and the language, and runs neither the closing nor any code.
--   Question     two sets of states, X and Y, of one pattern
--   Record       a kept record; lefts_of, rights_of, parents_of and letters_of are the columns of a list of records
--   candidate    the candidate of a number, by the records kept
--   Position     what the walk has done: the records kept, and how many candidates it has examined
--   Moves        a candidate is dealt with and the walk goes on: rules 1 and 4, from any position
--   Path, Word   the letters from the start to a record, and to a candidate
--   Outcome      what the walk comes to; kept_of, word_of and examined_of are its parts
--   Ends         the walk stops: rules 2 and 3, or no candidate is left
--   Walk         moves from the beginning, and an end: every valid question has one outcome (`walk_ends`, `walk_unique`)
use Rattle.std.specs.Prelude.{◌≡◌, List, [], ◌∷◌, ◌++◌, map, ℕ, zero, suc, ◌+◌, ◌*◌, ◌/◌, ◌%◌, ◌≤◌, ◌<◌, length, get_or}
use Rattle.pattern.specs.Pattern.{Pattern, pattern_of}
use Rattle.pattern.specs.Language.{next, accepts}
use Rattle.congruence.specs.Congruence.{Congruent, Listed}

pub record Question : Type 0 where
  pub pattern : Pattern
  pub left : ℕ
  pub right : ℕ

abbrev pub question_of : ℕ → ℕ → ℕ → List ℕ → ℕ → ℕ → Question
question_of n k finals rows x y = record { pattern = pattern_of n k finals rows; left = x; right = y }

-- two sets, the number of the record they came from, and the letter taken; record 0 has parent 0 and letter 0
pub record Record : Type 0 where
  pub left : ℕ
  pub right : ℕ
  pub parent : ℕ
  pub letter : ℕ

abbrev pub lefts_of : List Record → List ℕ
lefts_of kept = map (λ (r : Record). r.left) kept

abbrev pub rights_of : List Record → List ℕ
rights_of kept = map (λ (r : Record). r.right) kept

abbrev pub parents_of : List Record → List ℕ
parents_of kept = map (λ (r : Record). r.parent) kept

abbrev pub letters_of : List Record → List ℕ
letters_of kept = map (λ (r : Record). r.letter) kept

-- candidate 0 is the starting pair; candidate 1 + e is the pair of successors of record e / k by letter e % k
unfoldable pub candidate : Question → List Record → ℕ → Record
candidate Q kept zero = record { left = Q.left; right = Q.right; parent = 0; letter = 0 }
candidate Q kept (suc e) =
    let k = Q.pattern.letters in
    record {
      left = next Q.pattern (get_or (lefts_of kept) (e / k) 0) (e % k);
      right = next Q.pattern (get_or (rights_of kept) (e / k) 0) (e % k);
      parent = e / k;
      letter = e % k;
    }

-- how many candidates there are: the starting pair, and one for each kept record and letter
abbrev pub candidates : Question → List Record → ℕ
candidates Q kept = 1 + Q.pattern.letters * length kept

pub record Position : Type 0 where
  pub kept : List Record
  pub examined : ℕ

abbrev pub begin : Position
begin = record { kept = []; examined = 0 }

-- the candidate to be dealt with, and that there is one
abbrev pub upcoming : Question → Position → Record
upcoming Q p = candidate Q p.kept p.examined

abbrev pub Remains : Question → Position → Type 0
Remains Q p = p.examined < candidates Q p.kept

-- congruent by the records kept so far
abbrev pub Implied : List Record → Record → Type 0
Implied kept r = Congruent (Listed (lefts_of kept) (rights_of kept)) r.left r.right

-- both sides accept the empty sequence, or neither does; where not, exactly one side accepts it
abbrev pub Agrees : Question → Record → Type 0
Agrees Q r = accepts Q.pattern r.left [] ≡ accepts Q.pattern r.right []

-- the position after the candidate has been skipped, and after it has been kept
abbrev pub skip : Position → Position
skip p = record { kept = p.kept; examined = suc p.examined }

abbrev pub keep : Question → Position → Position
keep Q p = record { kept = p.kept ++ (upcoming Q p ∷ []); examined = suc p.examined }

-- 1. congruent by the records kept so far: skip
-- 4. else (not congruent, no difference, room left) keep it
pub data Moves (Q : Question) (room : ℕ) (p : Position) : Position → Type 0 where
  skipped : Remains Q p → Implied p.kept (upcoming Q p) → Moves Q room p (skip p)
  kept : Remains Q p → (Implied p.kept (upcoming Q p) → ⊥) → Agrees Q (upcoming Q p) → length p.kept < room → Moves Q room p (keep Q p)

-- the letters from the start to record number i, by the columns of parents and letters; the path ends at record number 0
pub data Path (parents letters : List ℕ) : ℕ → List ℕ → Type 0 where
  start : Path parents letters 0 []
  further : {i : ℕ} {w : List ℕ} → 0 < i → i < length parents → Path parents letters (get_or parents i 0) w
      → Path parents letters i (w ++ (get_or letters i 0 ∷ []))

-- the letters from the start to candidate number e
pub data Word (Q : Question) (kept : List Record) : ℕ → List ℕ → Type 0 where
  first : Word Q kept 0 []
  later : {e : ℕ} {w : List ℕ} → Path (parents_of kept) (letters_of kept) (e / Q.pattern.letters) w → Word Q kept (suc e) (w ++ (e % Q.pattern.letters ∷ []))

-- the records kept, the number examined, and for DIFFERENT the sequence
pub data Outcome : Type 0 where
  Same : List Record → ℕ → Outcome
  Different : List Record → ℕ → List ℕ → Outcome
  Full : List Record → ℕ → Outcome

-- the parts of an outcome; there is no sequence but for DIFFERENT
abbrev pub kept_of : Outcome → List Record
kept_of (Same records examined) = records
kept_of (Different records examined word) = records
kept_of (Full records examined) = records

abbrev pub word_of : Outcome → List ℕ
word_of (Same records examined) = []
word_of (Different records examined word) = word
word_of (Full records examined) = []

abbrev pub examined_of : Outcome → ℕ
examined_of (Same records examined) = examined
examined_of (Different records examined word) = examined
examined_of (Full records examined) = examined

-- no candidate is left: SAME
-- 2. not congruent, and exactly one side accepts the empty sequence: stop, DIFFERENT
-- 3. else as many records are kept as the room allows: stop, FULL
pub data Ends (Q : Question) (room : ℕ) (p : Position) : Outcome → Type 0 where
  same : (Remains Q p → ⊥) → Ends Q room p (Same p.kept p.examined)
  different : {w : List ℕ} → Remains Q p → (Implied p.kept (upcoming Q p) → ⊥) → (Agrees Q (upcoming Q p) → ⊥) → Word Q p.kept p.examined w
      → Ends Q room p (Different p.kept (suc p.examined) w)
  full : Remains Q p → (Implied p.kept (upcoming Q p) → ⊥) → Agrees Q (upcoming Q p) → room ≤ length p.kept
      → Ends Q room p (Full p.kept (suc p.examined))

-- some number of moves
pub data Moved (Q : Question) (room : ℕ) : Position → Position → Type 0 where
  stay : {p : Position} → Moved Q room p p
  go : {p q r : Position} → Moves Q room p q → Moved Q room q r → Moved Q room p r

-- the walk of a question in a room, from its beginning to its end
pub record Walk (Q : Question) (room : ℕ) (o : Outcome) : Type 0 where
  pub last : Position
  pub moved : Moved Q room begin last
  pub ends : Ends Q room last o
