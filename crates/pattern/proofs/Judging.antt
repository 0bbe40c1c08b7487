-- What judging answers, case by case; what each refusal means; and what a host sees by the number. Assumes nothing.
use mathlib.Core.Path.{◌≡◌, refl, sym, ap, ◌∙◌}
use mathlib.Core.Logic.{◌⊎◌, ◌↔◌, inl, inr}
use mathlib.Core.Bool.{Bool, true, false, true≢false}
use mathlib.Core.List.{List, [], ◌∷◌, Memᴰ}
use Prim.Native.Nat.{ℕ, ◌<◌}
use native.Mathlib.Omega.{arith}
use borrow.Author.Tests.{ltb-true, lt-ltb}
use Rattle.std.specs.Prelude.{Result, Ok, Err}
use Rattle.verdict.specs.declared.Refusal.{Refusal}
use Rattle.verdict.specs.Verdict.{Verdict}
use Rattle.verdict.specs.Verdict.Verdict.{Fine, Against}
use Rattle.verdict.specs.Tests.{each, Among}
use Rattle.verdict.specs.Lines.{GoesBy}
use Rattle.verdict.specs.Lines.Lines.{none, line}
use Rattle.verdict.proofs.Ordered.{apart, one_number, need_holds, need_fine, order_fine}
use Rattle.verdict.proofs.Each.{each_fine}
use Rattle.verdict.proofs.Numbered.{among_need, among_each, among_from}
use Rattle.verdict.proofs.Lines.{one_line, no_lines, lines_then, same_number, lines_among}
use Rattle.verdict.proofs.Refusals.{one_refusal, number_high}
use Rattle.pattern.specs.Pattern.{Pattern}
use Rattle.pattern.specs.Refusals.{shape_lines}
use Rattle.pattern.specs.Language.{accepts, Over}
use Rattle.pattern.specs.Judge.{letter_test, judge_test, by_language, or_refused, judged, told, number_of, Judgeable, judge_lines, HonestJudge}
use Rattle.pattern.specs.Judge.{Judged}
use Rattle.pattern.specs.Judge.Judged.{Refused}
use Rattle.pattern.proofs.Validity.{set_fine, pattern_valid}
use Rattle.pattern.proofs.Refusals.{set_line, pattern_lines_lem}
use Rattle.pattern.proofs.Words.{over_from, over_at}

-- ---- 15 BAD-LETTER

letter_fine : (k a : ℕ) → (letter_test k a ≡ Fine) ↔ (a < k)
unfolding letter_test
letter_fine k a = (λ e. ltb-true _ _ (need_fine _ 15 e), λ l. need_holds _ 15 (lt-ltb _ _ l))

letters_fine : (k : ℕ) (word : List ℕ) → (each (letter_test k) word ≡ Fine) ↔ Over k word
letters_fine k word = (
  λ e. over_from k word (λ i l. (letter_fine k _).0 ((each_fine (letter_test k) word).0 e i l)),
  λ o. (each_fine (letter_test k) word).1 (λ i l. (letter_fine k _).1 (over_at o i l)),
)

pub among_letter : (numbers : List ℕ) → Memᴰ 15 numbers → (k a : ℕ) → Among numbers (letter_test k a)
unfolding letter_test
among_letter numbers m k a = among_need numbers _ 15 m

letters_line : (k : ℕ) (word : List ℕ) → GoesBy (line 15 (Over k word) none) (each (letter_test k) word)
letters_line k word = one_line (among_each (15 ∷ []) (letter_test k) (among_letter (15 ∷ []) (Memᴰ.head refl) k) word) (letters_fine k word)

-- ---- what judging answers

-- what the code's Result tells, it alone tells
told_one : (r s : Result Bool Refusal) → told r ≡ told s → r ≡ s
told_one (Ok true) (Ok true) e = refl
told_one (Ok true) (Ok false) e = absurd (omega (arith, ap number_of e))
told_one (Ok false) (Ok true) e = absurd (omega (arith, ap number_of e))
told_one (Ok false) (Ok false) e = refl
told_one (Ok true) (Err why) e = absurd (omega (arith, ap number_of e, number_high why))
told_one (Ok false) (Err why) e = absurd (omega (arith, ap number_of e, number_high why))
told_one (Err why) (Ok true) e = absurd (omega (arith, ap number_of e, number_high why))
told_one (Err why) (Ok false) e = absurd (omega (arith, ap number_of e, number_high why))
told_one (Err a) (Err b) e = ap Err (one_refusal (ap number_of e))

-- judging is determined: two results that its contract allows are equal
pub judge_determined : (P : Pattern) (set : ℕ) (sequence : List ℕ) {r s : Result Bool Refusal} → told r ≡ judged P set sequence → told s ≡ judged P set sequence → r ≡ s
judge_determined P set sequence {r} {s} p q = told_one r s (p ∙ sym q)

module _ (P : Pattern) (set : ℕ) (sequence : List ℕ) where
  pub judged_refused : {w : ℕ} → judge_test P set sequence ≡ Against w → judged P set sequence ≡ Refused w
  unfolding judged
  judged_refused e = rw e refl

  pub judged_by_language : {b : Bool} → judge_test P set sequence ≡ Fine → accepts P set sequence ≡ b → judged P set sequence ≡ by_language b
  unfolding judged
  judged_by_language e a = rw (e, a) refl

  -- nothing is refused exactly where the pattern is valid, the set one of its states, and the sequence an event sequence
  pub judge_fine : (judge_test P set sequence ≡ Fine) ↔ Judgeable P set sequence
  unfolding judge_test
  judge_fine = (
    λ e.
        let (pattern, (good, (letters, _))) = (order_fine _).0 e in
        record { valid = (pattern_valid P).0 pattern; set_good = (set_fine _ _).0 good; letters_below = (letters_fine _ _).0 letters },
    λ q. (order_fine _).1 ((pattern_valid P).1 q.valid, ((set_fine _ _).1 q.set_good, ((letters_fine _ _).1 q.letters_below, tt))),
  )

  -- a question is refused exactly where a line applies, by the first
  pub judge_lines_lem : GoesBy (judge_lines P set sequence) (judge_test P set sequence)
  unfolding judge_test
  judge_lines_lem =
      same_number (shape_lines P none) 12 _ (λ p. p, λ p. p)
      (lines_then _ (pattern_lines_lem P) (lines_then _ (set_line P.states set) (lines_then _ (letters_line P.letters sequence) no_lines)))

  pub judge_among : Among (10 ∷ 11 ∷ 12 ∷ 15 ∷ []) (judge_test P set sequence)
  judge_among = lines_among judge_lines_lem

  honest : (v : Verdict) (b : Bool) → judge_test P set sequence ≡ v → accepts P set sequence ≡ b → HonestJudge P set sequence (or_refused v (by_language b))
  honest Fine true t a =
      record {
        accept = (λ e. (judge_fine.0 t, a), λ p. refl);
        reject = (λ e. absurd (omega arith), λ p. absurd (true≢false (sym a ∙ p.1)));
        refused = (λ e. absurd e, λ f. f (judge_fine.0 t));
        refused_by = λ w. (λ p. absurd p.0, λ p. apart t ((judge_lines_lem.against w).1 p));
        high = λ p. absurd p;
      }
  honest Fine false t a =
      record {
        accept = (λ e. absurd (omega arith), λ p. absurd (true≢false (sym p.1 ∙ a)));
        reject = (λ e. (judge_fine.0 t, a), λ p. refl);
        refused = (λ e. absurd e, λ f. f (judge_fine.0 t));
        refused_by = λ w. (λ p. absurd p.0, λ p. apart t ((judge_lines_lem.against w).1 p));
        high = λ p. absurd p;
      }
  honest (Against u) b t a =
      let least = among_from 10 refl judge_among t in
      record {
        accept = (λ e. absurd (omega arith), λ p. apart (judge_fine.1 p.0) t);
        reject = (λ e. absurd (omega arith), λ p. apart (judge_fine.1 p.0) t);
        refused = (λ e q. apart (judge_fine.1 q) t, λ f. tt);
        refused_by = λ w. (λ p. (judge_lines_lem.against w).0 (t ∙ ap Against p.1), λ p. (tt, one_number t ((judge_lines_lem.against w).1 p)));
        high = λ p. least;
      }

  -- what a host sees by its number means what it says
  pub judge_honest : {j : Judged} → j ≡ judged P set sequence → HonestJudge P set sequence j
  unfolding judged
  judge_honest e = rw e (honest _ _ refl refl)

  -- what is not refused is answered: 3 or 4
  pub judge_answered : {j : Judged} → j ≡ judged P set sequence → Judgeable P set sequence → (number_of j ≡ 3) ⊎ (number_of j ≡ 4)
  judge_answered {j} e q = pick (accepts P set sequence) refl
    where
      pick : (b : Bool) → accepts P set sequence ≡ b → (number_of j ≡ 3) ⊎ (number_of j ≡ 4)
      pick true a = inl ((judge_honest e).accept.1 (q, a))
      pick false a = inr ((judge_honest e).reject.1 (q, a))
