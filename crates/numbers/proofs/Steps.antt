-- Where a reader of a file stands, and how each step of its code moves it: the steps take what the code's calls ensure.
use Prim.Native.Nat.{ℕ, ◌<◌, ◌≤◌}
use mathlib.Core.List.{List, [], ◌∷◌, ◌++◌, append_assoc, append-nil}
use mathlib.Core.Path.{◌≡◌, refl, sym, ap, ◌∙◌}
use lib.ListN.{length}
use borrow.Author.Tests.{lt-ltb, le-ltb}
use Rattle.verdict.specs.Verdict.{Verdict}
use Rattle.verdict.specs.Verdict.Verdict.{Fine, Against}
use Rattle.numbers.specs.Numbers.{Number, number_at}
use Rattle.numbers.specs.Numbers.Number.{Value, Fault}
use Rattle.numbers.specs.Format.{Format, ended, item, gate, many, Reading, got, refused, held_to, or_refused, unless_refused, before, reading, no_tail, file_reading}
use Rattle.numbers.proofs.Parts.{then_reading, before_all, going_on, followed, none_before, reading_followed, reading_many, reading_ended}

-- ---- one number of a format

module _ (test : ℕ → Verdict) (rest : ℕ → Format) (s : List ℕ) (at : ℕ) where
  go_on : Number → Reading
  go_on n = or_refused n (λ v next. before v (reading (rest v) s next))

  pub item_taken : {v next : ℕ} → held_to test at (number_at s at) ≡ Value v next → reading (item test rest) s at ≡ before v (reading (rest v) s next)
  unfolding reading go_on
  item_taken h = ap go_on h

  pub item_stopped : {w p : ℕ} → held_to test at (number_at s at) ≡ Fault w p → reading (item test rest) s at ≡ refused w p
  unfolding reading go_on
  item_stopped h = ap go_on h

-- ---- us has been read of a format, from place start on, and f is still to be read, from place at on

pub record Reached (whole : Format) (s : List ℕ) (start : ℕ) (us : List ℕ) (f : Format) (at : ℕ) : Type 0 where
  pub same : reading whole s start ≡ before_all us (reading f s at)

pub reached_first : (whole : Format) (s : List ℕ) (start : ℕ) → Reached whole s start [] whole start
reached_first whole s start = record { same = none_before (reading whole s start) }

all_before : (us : List ℕ) (v : ℕ) (r : Reading) → before_all us (before v r) ≡ before_all (us ++ (v ∷ [])) r
all_before us v (got vs n) = ap (λ (l : List ℕ). got l n) (sym (append_assoc us (v ∷ []) vs))
all_before us v (refused w p) = refl

all_all : (us ws : List ℕ) (r : Reading) → before_all us (before_all ws r) ≡ before_all (us ++ ws) r
all_all us ws (got vs n) = ap (λ (l : List ℕ). got l n) (sym (append_assoc us ws vs))
all_all us ws (refused w p) = refl

module _ {whole : Format} {s : List ℕ} {start : ℕ} {us : List ℕ} {at : ℕ} where
  module _ {test : ℕ → Verdict} {rest : ℕ → Format} (g : Reached whole s start us (item test rest) at) where
    pub reached_item : {v next : ℕ} → Value v next ≡ held_to test at (number_at s at) → Reached whole s start (us ++ (v ∷ [])) (rest v) next
    reached_item {v} {next} e = record { same = g.same ∙ ap (before_all us) (item_taken test rest s at (sym e)) ∙ all_before us v (reading (rest v) s next) }

    pub stopped_item : {w p : ℕ} → Fault w p ≡ held_to test at (number_at s at) → reading whole s start ≡ refused w p
    stopped_item e = g.same ∙ ap (before_all us) (item_stopped test rest s at (sym e))

  module _ {verdict : Verdict} {f : Format} (g : Reached whole s start us (gate verdict f) at) where
    pub reached_gate : verdict ≡ Fine → Reached whole s start us f at
    unfolding reading
    reached_gate q = record { same = g.same ∙ ap (λ (x : Verdict). before_all us (unless_refused x at (reading f s at))) q }

    pub stopped_gate : {w : ℕ} → verdict ≡ Against w → reading whole s start ≡ refused w at
    unfolding reading
    stopped_gate q = g.same ∙ ap (λ (x : Verdict). before_all us (unless_refused x at (reading f s at))) q

  module _ (m : ℕ) (test : ℕ → Verdict) (f : Format) (g : Reached whole s start us (many m test f) at) where
    pub reached_many : {ws : List ℕ} {next : ℕ} → reading (many m test ended) s at ≡ got ws next → Reached whole s start (us ++ ws) f next
    reached_many {ws} {next} q =
        record {
          same =
              g.same
              ∙ ap (before_all us) (reading_many m test f s at ∙ ap (λ (r : Reading). then_reading r (going_on (λ vs. f) s)) q)
              ∙ all_all us ws (reading f s next);
        }

    pub stopped_many : {w p : ℕ} → reading (many m test ended) s at ≡ refused w p → reading whole s start ≡ refused w p
    stopped_many q = g.same ∙ ap (before_all us) (reading_many m test f s at ∙ ap (λ (r : Reading). then_reading r (going_on (λ vs. f) s)) q)

  pub reached_end : Reached whole s start us ended at → reading whole s start ≡ got us at
  reached_end g = g.same ∙ ap (before_all us) (reading_ended s at) ∙ ap (λ (l : List ℕ). got l at) (append-nil us)

-- what a part of a format gave, where the format goes on behind it
module _ (part : Format) (more : List ℕ → Format) (s : List ℕ) (start : ℕ) where
  pub reached_part : {us : List ℕ} {at : ℕ} → reading part s start ≡ got us at → Reached (followed part more) s start us (more us) at
  reached_part q = record { same = reading_followed part more s start ∙ ap (λ (r : Reading). then_reading r (going_on more s)) q }

  pub stopped_part : {w p : ℕ} → reading part s start ≡ refused w p → reading (followed part more) s start ≡ refused w p
  stopped_part q = reading_followed part more s start ∙ ap (λ (r : Reading). then_reading r (going_on more s)) q

-- ---- the whole file: what was refused stays so, and bytes after the last number are TAIL

module _ (file : Format) (s : List ℕ) where
  pub file_stopped : {w p : ℕ} → reading file s 0 ≡ refused w p → file_reading file s ≡ refused w p
  unfolding file_reading
  file_stopped q = ap (no_tail s) q

  pub file_tail : {us : List ℕ} {at : ℕ} → reading file s 0 ≡ got us at → at < length s → file_reading file s ≡ refused 22 at
  unfolding file_reading
  file_tail {at = at} q h = ap (no_tail s) q ∙ rw (lt-ltb at (length s) h)

  pub file_whole : {us : List ℕ} {at : ℕ} → reading file s 0 ≡ got us at → length s ≤ at → file_reading file s ≡ got us at
  unfolding file_reading
  file_whole {at = at} q h = ap (no_tail s) q ∙ rw (le-ltb at (length s) h)
