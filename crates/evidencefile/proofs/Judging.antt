-- The first pass over the count and the pairs: each way out of it is what reading them gives.
use Prim.Native.Nat.{ℕ, ◌*◌, ◌≤◌}
use mathlib.Core.List.{List, [], ◌∷◌}
use mathlib.Core.Path.{◌≡◌, sym}
use Rattle.verdict.specs.Verdict.Verdict.{Fine, Against}
use Rattle.sets.specs.Rooms.{max_room}
use Rattle.pattern.specs.Tests.{set_test}
use Rattle.numbers.specs.Numbers.{number_at}
use Rattle.numbers.specs.Numbers.Number.{Value, Fault}
use Rattle.numbers.specs.Format.{Format, ended, item, gate, many, got, refused, held_to, reading}
use Rattle.numbers.proofs.Formats.{held}
use Rattle.numbers.proofs.Steps.{Reached, reached_first, reached_item, reached_gate, reached_many, reached_end, stopped_item, stopped_gate, stopped_many}
use Rattle.evidencefile.specs.EvidenceFile.{count_test, pair_room_test, pairs_format}
use Rattle.evidencefile.proofs.Contents.{count_fine}

module _ (n lefts rights : ℕ) (s : List ℕ) (at : ℕ) where
  abbrev pairs : ℕ → Format
  pairs m = many (2 * m) (set_test n) ended

  to_count : Reached (pairs_format n lefts rights) s at [] (item count_test (λ m. gate (pair_room_test lefts rights m) (pairs m))) at
  unfolding pairs_format
  to_count = reached_first (pairs_format n lefts rights) s at

  pub no_count : {w p : ℕ} → Fault w p ≡ held_to count_test at (number_at s at) → reading (pairs_format n lefts rights) s at ≡ refused w p
  no_count e = stopped_item to_count e

  module _ {m next : ℕ} (e : Value m next ≡ held_to count_test at (number_at s at)) where
    pub few_pairs : m ≤ max_room
    few_pairs = (count_fine m).0 (held count_test at (number_at s at) (sym e)).range

    -- NO-ROOM
    pub no_room : {w : ℕ} → pair_room_test lefts rights m ≡ Against w → reading (pairs_format n lefts rights) s at ≡ refused w next
    no_room h = stopped_gate (reached_item to_count e) h

    module _ (h : pair_room_test lefts rights m ≡ Fine) where
      to_pairs : Reached (pairs_format n lefts rights) s at (m ∷ []) (pairs m) next
      to_pairs = reached_gate (reached_item to_count e) h

      pub bad_pair : {w p : ℕ} → reading (pairs m) s next ≡ refused w p → reading (pairs_format n lefts rights) s at ≡ refused w p
      bad_pair q = stopped_many (2 * m) (set_test n) ended to_pairs q

      pub all_pairs : {us : List ℕ} {end : ℕ} → reading (pairs m) s next ≡ got us end → reading (pairs_format n lefts rights) s at ≡ got (m ∷ us) end
      all_pairs q = reached_end (reached_many (2 * m) (set_test n) ended to_pairs q)
