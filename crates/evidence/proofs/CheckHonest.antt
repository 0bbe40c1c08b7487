-- What a host sees of the check, by the numbers, means what it says. Assumes nothing.
use mathlib.Core.Path.{◌≡◌, refl, ap, ◌∙◌}
use mathlib.Core.Logic.{◌⊎◌, inl, inr}
use Prim.Native.Nat.{ℕ}
use native.Mathlib.Omega.{arith}
use Rattle.std.specs.Prelude.{Result, Ok, Err}
use Rattle.verdict.specs.declared.Refusal.{Refusal}
use Rattle.verdict.specs.Refusals.{number}
use Rattle.verdict.specs.Verdict.Verdict.{Fine, Against}
use Rattle.verdict.specs.Lines.{Applies}
use Rattle.verdict.proofs.Ordered.{apart, one_number}
use Rattle.verdict.proofs.Numbered.{among_from}
use Rattle.evidence.specs.Evidence.{Offer, ValidOffer, check_test, Checked, number_of, place_of}
use Rattle.evidence.specs.Evidence.ByPairs.{all_hold, fails}
use Rattle.evidence.specs.Evidence.Checked.{refuses, not_started, started}
use Rattle.evidence.specs.Meaning.{check_lines, Holding, FailsAt, HonestCheck}
use Rattle.evidence.specs.Meaning.FailsAt.{unstarted, lowest}
use Rattle.evidence.specs.declared.Answer.{Answer}
use Rattle.evidence.specs.declared.Answer.TheVariants.{Proved, NotProved}
use Rattle.evidence.proofs.Validity.{offer_valid}
use Rattle.evidence.proofs.Refusing.{check_lines_lem, check_among}
use Rattle.evidence.proofs.Meaning.{evidence_means_same}
use Rattle.evidence.proofs.Determined.{check_determined}

module _ (o : Offer) where
  -- evidence that holds is PROVED, and evidence that fails is NOT-PROVED at that place
  pub holding_proved : ValidOffer o → Holding o → Checked o (Ok Proved)
  holding_proved v h = started ((offer_valid o).1 v) h.starts (all_hold h.pairs)

  failing_placed : {place : ℕ} → ValidOffer o → FailsAt o place → Checked o (Ok (NotProved place))
  failing_placed v (unstarted f) = not_started ((offer_valid o).1 v) f
  failing_placed v (lowest s l p f) = started ((offer_valid o).1 v) s (fails l p f)

  no_line : check_test o ≡ Fine → (w : ℕ) → Applies (check_lines o) w → ⊥
  no_line t w p = apart t (((check_lines_lem o).against w).1 p)

  proved_honest : Checked o (Ok Proved) → check_test o ≡ Fine → Holding o → HonestCheck o (Ok Proved)
  proved_honest c t h =
      record {
        proved = (λ e. ((offer_valid o).0 t, h), λ p. refl);
        same = λ e. evidence_means_same c;
        not_proved = λ place. (λ p. absurd (omega arith), λ p. absurd (let e = ap number_of (check_determined c (failing_placed p.0 p.1)) in omega arith));
        refused = (λ e. absurd e, λ f. f ((offer_valid o).0 t));
        refused_by = λ w. (λ p. absurd p.0, λ p. absurd (no_line t w p));
        high = λ p. absurd p;
        no_place = λ f. refl;
      }

  failing_honest : {i : ℕ} → Checked o (Ok (NotProved i)) → check_test o ≡ Fine → FailsAt o i → HonestCheck o (Ok (NotProved i))
  failing_honest c t f =
      record {
        proved = (λ e. absurd (omega arith), λ p. absurd (let e = ap number_of (check_determined c (holding_proved p.0 p.1)) in omega arith));
        same = λ e. absurd (omega arith);
        not_proved = λ place. (λ p. ((offer_valid o).0 t, rw p.1 at f), λ p. (refl, ap place_of (check_determined c (failing_placed p.0 p.1))));
        refused = (λ e. absurd e, λ g. g ((offer_valid o).0 t));
        refused_by = λ w. (λ p. absurd p.0, λ p. absurd (no_line t w p));
        high = λ p. absurd p;
        no_place = λ g. absurd (g refl);
      }

  refused_honest : {why : Refusal} → check_test o ≡ Against (number why) → HonestCheck o (Err why)
  refused_honest t =
      let least = among_from 10 refl (check_among o) t in
      record {
        proved = (λ e. absurd (omega arith), λ p. apart ((offer_valid o).1 p.0) t);
        same = λ e. absurd (omega arith);
        not_proved = λ place. (λ p. absurd (omega arith), λ p. apart ((offer_valid o).1 p.0) t);
        refused = (λ e v. apart ((offer_valid o).1 v) t, λ f. tt);
        refused_by = λ w. (λ p. ((check_lines_lem o).against w).0 (t ∙ ap Against p.1), λ p. (tt, one_number t (((check_lines_lem o).against w).1 p)));
        high = λ p. least;
        no_place = λ f. refl;
      }

-- an answer means what its number and its place say
pub check_honest : {o : Offer} {a : Result Answer Refusal} → Checked o a → HonestCheck o a
check_honest {o} (refuses t) = refused_honest o t
check_honest {o} (not_started t f) = failing_honest o (not_started t f) t (unstarted f)
check_honest {o} (started t s (all_hold h)) = proved_honest o (started t s (all_hold h)) t (record { starts = s; pairs = h })
check_honest {o} (started t s (fails l p f)) = failing_honest o (started t s (fails l p f)) t (lowest s l p f)

-- a valid offer is not refused: it gets PROVED or NOT-PROVED
pub valid_answered : {o : Offer} {a : Result Answer Refusal} → ValidOffer o → Checked o a → (number_of a ≡ 5) ⊎ (number_of a ≡ 6)
valid_answered {o} v (refuses t) = apart ((offer_valid o).1 v) t
valid_answered v (not_started t f) = inr refl
valid_answered v (started t s (all_hold h)) = inl refl
valid_answered v (started t s (fails l p f)) = inr refl
