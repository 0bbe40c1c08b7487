-- A pattern: n states, k letters, the final states, and n * k rows. Row s * k + a is the set reached from state s by letter a.
use Rattle.std.specs.Prelude.{◌≡◌, List, ℕ, ◌+◌, ◌*◌, ◌≤◌, ◌<◌, length, get_or}
use Rattle.sets.specs.Sets.{Good}

pub record Pattern : Type 0 where
  pub states : ℕ
  pub letters : ℕ
  pub finals : ℕ
  pub rows : List ℕ

abbrev pub pattern_of : ℕ → ℕ → ℕ → List ℕ → Pattern
pattern_of n k finals rows = record { states = n; letters = k; finals = finals; rows = rows }

-- the set reached from state s by letter a
abbrev pub row : Pattern → ℕ → ℕ → ℕ
row P s a = get_or P.rows (s * P.letters + a) 0

-- n from 1 to 64, k from 1 to 32
pub record Sized (n k : ℕ) : Type 0 where
  pub some_state : 1 ≤ n
  pub states_fit : n ≤ 64
  pub some_letter : 1 ≤ k
  pub letters_fit : k ≤ 32

-- there are n * k rows
abbrev pub Tabled : Pattern → Type 0
Tabled P = length P.rows ≡ P.states * P.letters

-- every mask of a list is a set of n states
abbrev pub AllGood : ℕ → List ℕ → Type 0
AllGood n masks = (i : ℕ) → i < length masks → Good n (get_or masks i 0)

-- a pattern that no call refuses: in range, with n * k rows, and every mask a set of its states
pub record Valid (P : Pattern) : Type 0 where
  pub sized : Sized P.states P.letters
  pub tabled : Tabled P
  pub finals_good : Good P.states P.finals
  pub rows_good : AllGood P.states P.rows
