-- The names of events (the scope, §10): twelve by letter, and a number for every other. The laws stand in proofs/.
--   names              the twelve names, by letter
--   event_name letter   one of the twelve, or E and the letter's number. A name has one to nine bytes (`name_some`, `name_short`, `name_longest`),
--                      and letters below 32 have different names (`name_injective`)
use Rattle.std.specs.Prelude.{List, [], ◌∷◌, ◌++◌, ℕ, get_or}
use Rattle.text.specs.Text.{word, decimal}

unfoldable pub names : List (List ℕ)
names =
    word "READ" ∷
    word "STABLE" ∷
    word "DROP" ∷
    word "DRYHOP" ∷
    word "CRASH" ∷
    word "WARM" ∷
    word "CAP" ∷
    word "VENT" ∷
    word "TRANSFER" ∷
    word "SAMPLE" ∷
    word "CLOCKBACK" ∷
    word "CLOCKON" ∷
    []

-- past the end of the twelve, E and the number
unfoldable pub event_name : ℕ → List ℕ
event_name letter = get_or names letter (word "E" ++ decimal letter)
