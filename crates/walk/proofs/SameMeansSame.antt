-- `same_means_same`: on SAME every event sequence is accepted from both starts or from neither. Assumes nothing.
use mathlib.Core.Path.{subst}
use mathlib.Core.List.{List}
use Prim.Native.Nat.{ℕ, suc, ◌+◌, ◌*◌, ◌<◌}
use native.Mathlib.Nat.{mul_comm}
use native.Mathlib.Omega.{arith}
use lib.ListN.{length, length-map}
use Rattle.pattern.specs.Pattern.{Sized}
use Rattle.pattern.specs.Language.{SameLanguage}
use Rattle.pattern.proofs.Steps.{row_below}
use Rattle.congruence.specs.Congruence.{Congruent, Listed}
use Rattle.congruence.specs.Progress.{Progress}
use Rattle.congruence.proofs.UpTo.{up_to_congruence}
use Rattle.walk.specs.Walk.{Question, Record, lefts_of, rights_of, candidate, Position, Remains, Implied, Ends, Walk}
use Rattle.walk.specs.Walk.Outcome.{Same}
use Rattle.walk.specs.Walk.Ends.{same}
use Rattle.walk.proofs.Sound.{Sound, walk_sound}
use Rattle.walk.proofs.Leading.{candidate_at}

module _ (Q : Question) where
  -- where no candidate is left, the records are a bisimulation up to congruence
  all_dealt : {p : Position} → Sound Q p → (Remains Q p → ⊥) → Progress Q.pattern (Listed (lefts_of p.kept) (rights_of p.kept))
  all_dealt {p} s n =
      record {
        each = λ a b r.
            let k = Q.pattern.letters in
            let i = r.at in
            let l : i < length p.kept = rw (length-map p.kept (λ (r : Record). r.left)) at r.below in
            rw (← r.left, ← r.right)
            (record {
              agrees = (s.reached i l).agrees;
              steps = λ x h.
                  let g : suc (i * k + x) < p.examined = omega (arith, row_below (length p.kept) k i x l h, mul_comm (length p.kept) k) in
                  subst (λ (c : Record). Implied p.kept c) (candidate_at Q p.kept i x h) (s.dealt (suc (i * k + x)) g);
            });
      }

  starts : {p : Position} → Sound Q p → 0 < p.examined → Congruent (Listed (lefts_of p.kept) (rights_of p.kept)) Q.left Q.right
  unfolding candidate
  starts s h = s.dealt 0 h

-- what SAME left is a bisimulation up to congruence, and the starting pair is congruent by it
pub same_progress : {Q : Question} {room : ℕ} {kept : List Record} {e : ℕ} → Sized Q.pattern.states Q.pattern.letters → Walk Q room (Same kept e)
    → Progress Q.pattern (Listed (lefts_of kept) (rights_of kept)) × Congruent (Listed (lefts_of kept) (rights_of kept)) Q.left Q.right
same_progress {Q} sized w = ended (walk_sound sized w) w.ends
  where
    ended : {room : ℕ} {p : Position} {kept : List Record} {e : ℕ} → Sound Q p → Ends Q room p (Same kept e)
        → Progress Q.pattern (Listed (lefts_of kept) (rights_of kept)) × Congruent (Listed (lefts_of kept) (rights_of kept)) Q.left Q.right
    ended s (same n) = (all_dealt Q s n, starts Q s (omega arith))

pub same_means_same : {Q : Question} {room : ℕ} {kept : List Record} {e : ℕ} → Sized Q.pattern.states Q.pattern.letters
    → Walk Q room (Same kept e) → SameLanguage Q.pattern Q.left Q.right
same_means_same sized w = let (p, start) = same_progress sized w in up_to_congruence p start
