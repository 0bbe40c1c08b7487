-- `pattern::Pattern::judge` answers what the definition of judging answers.
use Rattle.std.proofs.Common.{◌≡◌, rules, Err}
use mathlib.Core.Path.{sym}
use mathlib.Core.List.{List}
use mathlib.Core.Path.{refl, ◌∙◌}
use Prim.Native.Nat.{ℕ}
use Rattle.verdict.specs.Verdict.Verdict.{Fine}
use Rattle.pattern.specs.Pattern.{Pattern}
use Rattle.pattern.specs.Language.{accepts}
use Rattle.pattern.specs.Judge.{Judged, judge_test, judged, by_language}
use Rattle.pattern.proofs.Judging.{judged_refused, judged_by_language, judge_fine}
use Rattle.pattern.proofs.Pattern.judge.Goals as goal

pub returns-in_err-judge_test : goal.returns-in_err-judge_test
returns-in_err-judge_test c =
    let e : c.from_residual.result ≡ Err c.in_err-judge_test.field-0.0 = search rules in
    rw e (sym (judged_refused _ _ _ (sym c.in_err-judge_test.ensures)))

pub invariant_of-reached-clause-states_bound : goal.invariant_of-reached-clause-states_bound
invariant_of-reached-clause-states_bound c = ((judge_fine _ _ _).0 (sym c.in_ok-judge_test.ensures)).valid.sized.states_fit

pub invariant_of-reached-clause-rows_len : goal.invariant_of-reached-clause-rows_len
invariant_of-reached-clause-rows_len c = ((judge_fine _ _ _).0 (sym c.in_ok-judge_test.ensures)).valid.tabled

pub reached-end-requires : goal.reached-end-requires
reached-end-requires c = ((judge_fine _ _ _).0 (sym c.in_ok-judge_test.ensures)).letters_below

-- what is told by the language is what judging answers
told_as : (P : Pattern) (set : ℕ) (sequence : List ℕ) {j : Judged} → judge_test P set sequence ≡ Fine → j ≡ by_language (accepts P set sequence) → j ≡ judged P set sequence
told_as P set sequence e h = h ∙ sym (judged_by_language P set sequence e refl)

pub returns : goal.returns
unfolding accepts
returns c = told_as _ _ _ (sym c.in_ok-judge_test.ensures) (cc)
