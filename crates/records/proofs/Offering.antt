-- What SAME left is evidence that holds, also where it kept nothing: the check answers PROVED to it, and nothing else. Assumes nothing.
use mathlib.Core.Path.{◌≡◌, refl, sym, ◌∙◌, subst}
use mathlib.Core.List.{List}
use Prim.Native.Nat.{ℕ, ◌≤◌, ◌<◌}
use native.Mathlib.Omega.{arith}
use lib.ListN.{length, length-map}
use Rattle.sets.specs.Sets.{Good}
use Rattle.sets.specs.Rooms.{max_room}
use Rattle.pattern.specs.Pattern.{Pattern, Valid}
use Rattle.pattern.specs.Language.{next, reach, Over}
use Rattle.pattern.specs.Language.Over.{empty, letter}
use Rattle.pattern.proofs.Steps.{next_good}
use Rattle.walk.specs.Walk.{Question, Record, lefts_of, rights_of, Position, Ends, Walk}
use Rattle.walk.specs.Walk.Outcome.{Same, Different, Full}
use Rattle.walk.specs.Walk.Ends.{same}
use Rattle.walk.specs.Columns.{Columns, columns_of, firsts}
use Rattle.walk.specs.Meaning.{Proper}
use Rattle.walk.proofs.Sound.{Reached, Sound, walk_sound}
use Rattle.walk.proofs.SameMeansSame.{same_progress}
use Rattle.walk.proofs.Counts.{counts}
use Rattle.comparison.specs.Answers as Comparison
use Rattle.comparison.specs.Answers.{Answered, values_of, Lent, Call, Compared}
use Rattle.comparison.specs.Answers.Compared.{refuses, walks}
use Rattle.comparison.proofs.Asking.{compare_fine, refusal_number}
use Rattle.comparison.proofs.Standing.{firsts_laid}
use Rattle.evidence.specs.Evidence.{ValidOffer, Checked}
use Rattle.evidence.specs.Meaning.{Holding}
use Rattle.std.specs.Prelude.{Result, Ok}
use Rattle.verdict.specs.declared.Refusal.{Refusal}
use Rattle.evidence.specs.declared.Answer.{Answer}
use Rattle.evidence.specs.declared.Answer.TheVariants.{Proved}
use Rattle.evidence.proofs.CheckHonest.{holding_proved}
use Rattle.evidence.proofs.Determined.{check_determined}
use Rattle.records.specs.Offers.{offer_for}

-- a word leads from a set of states to a set of states
reach_good : {P : Pattern} → Valid P → {set : ℕ} → Good P.states set → {w : List ℕ} → Over P.letters w → Good P.states (reach P set w)
unfolding reach
reach_good v g empty = g
reach_good {P} v {set} g (letter {a} l o) = reach_good v {set = next P set a} (next_good v set a l) o

reached_end : {Q : Question} {room : ℕ} {p : Position} {kept : List Record} {e : ℕ} → Sound Q p → Ends Q room p (Same kept e) → (i : ℕ) → i < length kept → Reached Q kept i
reached_end s (same n) = s.reached

-- ---- the walk

module _ {Q : Question} (proper : Proper Q) {room : ℕ} (most : room ≤ max_room) {kept : List Record} {e : ℕ} (w : Walk Q room (Same kept e)) where
  all_reached : (i : ℕ) → i < length kept → Reached Q kept i
  all_reached = reached_end (walk_sound proper.valid.sized w) w.ends

  long : length (lefts_of kept) ≡ length kept
  long = length-map kept (λ (r : Record). r.left)

  also_long : length (rights_of kept) ≡ length kept
  also_long = length-map kept (λ (r : Record). r.right)

  offer_good : ValidOffer (offer_for Q (columns_of kept))
  offer_good =
      let v = proper.valid in
      record {
        pattern = v;
        pairs_fit = omega (arith, long, (counts v.sized w).fits, most);
        sides_match = long ∙ sym also_long;
        x_good = proper.left_good;
        y_good = proper.right_good;
        lefts_good = λ i h. let R = all_reached i (omega (arith, h, long)) in rw (← R.left) (reach_good v proper.left_good R.over);
        rights_good = λ i h. let R = all_reached i (omega (arith, h, also_long)) in rw (← R.right) (reach_good v proper.right_good R.over);
      }

  records_hold : Holding (offer_for Q (columns_of kept))
  records_hold =
      let (progress, start) = same_progress proper.valid.sized w in
      record { starts = start; pairs = λ j h. progress.each _ _ (record { at = j; below = h; left = refl; right = refl }) }

  -- the records that SAME left, as they are, are PROVED
  pub same_is_proved : Checked (offer_for Q (columns_of kept)) (Ok Proved)
  same_is_proved = holding_proved _ offer_good records_hold

-- ---- the calls

-- where `compare` answered SAME, `check` answers PROVED to the first `kept` places of what it was lent
pub compare_same_is_proved : {c : Call} {a : Answered} {later : Lent} {b : Result Answer Refusal} → Compared c a later → Comparison.number_of a ≡ 0
    → Checked (offer_for c.question (firsts (values_of a).kept later.columns)) b → b ≡ Ok Proved
compare_same_is_proved {c} (refuses e) z k = absurd (omega (arith, refusal_number c e, z))
compare_same_is_proved {c} {b = b} (walks {o = Same kept e} f w) z k =
    let (proper, fits) = (compare_fine c).0 f in
    check_determined (subst (λ (u : Columns). Checked (offer_for c.question u) b) (firsts_laid kept c.lent.columns) k) (same_is_proved proper fits.most w)
compare_same_is_proved (walks {o = Different kept e u} f w) z k = absurd (omega (arith, z))
compare_same_is_proved (walks {o = Full kept e} f w) z k = absurd (omega (arith, z))
