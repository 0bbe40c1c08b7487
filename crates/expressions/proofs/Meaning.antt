-- What an answer to two texts means: DONE exactly where the texts can be made a pattern, and a refusal exactly where it applies.
use mathlib.Core.Path.{◌≡◌, refl, sym, subst}
use mathlib.Core.List.{List, [], Memᴰ}
use Prim.Native.Nat.{ℕ, ◌^◌, ◌≤◌}
use native.Mathlib.Omega.{arith}
use lib.ListN.{length}
use Rattle.std.specs.Prelude.{Ok, Err}
use Rattle.verdict.specs.Refusals.{number}
use Rattle.sets.specs.Sets.{Has}
use Rattle.sets.proofs.Meeting.{meets_members}
use Rattle.pattern.specs.Pattern.{Pattern}
use Rattle.pattern.specs.Language.{accepts, reach, Over}
use Rattle.expressions.specs.Expressions.{Takes}
use Rattle.expressions.specs.Texts.{Wrong}
use Rattle.expressions.specs.Texts.Wrong.{misplaced, unknown, unfinished, too_many, too_deep}
use Rattle.expressions.specs.Answers.{WrongSecond, Refusal, Built, Answer}
use Rattle.expressions.specs.Answers.WrongSecond.{no_start, in_text}
use Rattle.expressions.specs.Answers.Refusal.{first_text, second_text, no_room}
use Rattle.expressions.specs.Languages.{made_of, Speaks, Answered}
use Rattle.expressions.specs.Meaning.{text_refusals, Expressible, StartFinal, HonestExpressions}
use Rattle.expressions.proofs.Places.{pow_has, has_pow}
use Rattle.expressions.proofs.Determined.{refusals, not_refused}

-- ---- the numbers

wrong_among : {text : List ℕ} {taken number place : ℕ} → Wrong text taken number place → Memᴰ number text_refusals
wrong_among (misplaced r h e v) = Memᴰ.head refl
wrong_among (unknown r h e) = Memᴰ.head refl
wrong_among (unfinished r f) = Memᴰ.head refl
wrong_among (too_many r h e g) = Memᴰ.tail (Memᴰ.head refl)
wrong_among (too_deep r h e g) = Memᴰ.tail (Memᴰ.tail (Memᴰ.head refl))

second_among : {text : List ℕ} {b number place : ℕ} → WrongSecond text b number place → Memᴰ number text_refusals
second_among (no_start g) = Memᴰ.tail (Memᴰ.head refl)
second_among (in_text w) = wrong_among w

pub refusal_among : {one two rows : List ℕ} {number place text : ℕ} → Refusal one two rows number place text → Memᴰ number text_refusals
refusal_among (first_text f) = wrong_among f.wrong
refusal_among (second_text a f) = second_among f.wrong
refusal_among (no_room a b l) = Memᴰ.tail (Memᴰ.tail (Memᴰ.tail (Memᴰ.head refl)))

-- every one of them is 10 or more
among_high : {number : ℕ} → Memᴰ number text_refusals → 10 ≤ number
among_high (Memᴰ.head e) = omega (arith, e)
among_high (Memᴰ.tail (Memᴰ.head e)) = omega (arith, e)
among_high (Memᴰ.tail (Memᴰ.tail (Memᴰ.head e))) = omega (arith, e)
among_high (Memᴰ.tail (Memᴰ.tail (Memᴰ.tail (Memᴰ.head e)))) = omega (arith, e)
among_high (Memᴰ.tail (Memᴰ.tail (Memᴰ.tail (Memᴰ.tail m)))) = elim m [ ]

-- the text is 1, 2 or 0
refusal_text : {one two rows : List ℕ} {number place text : ℕ} → Refusal one two rows number place text → text ≤ 2
refusal_text (first_text f) = omega arith
refusal_text (second_text a f) = omega arith
refusal_text (no_room a b l) = omega arith

-- ---- a start is final exactly where its set accepts the empty sequence

start_final : {P : Pattern} {set s : ℕ} {text : List ℕ} → set ≡ 2 ^ s → Speaks P set text → StartFinal P.finals s text
unfolding accepts reach
start_final {P} {set} {s} e k = record { tree = k.tree; means = k.means; final = (to, fro) }
  where
    met : Has set s
    met = subst (λ (z : ℕ). Has z s) (sym e) (pow_has s)

    to : Has P.finals s → Takes k.tree []
    to h = (k.language [] Over.empty).0 ((meets_members set P.finals).1 (s, met, h))

    fro : Takes k.tree [] → Has P.finals s
    fro t =
        let (z, a, b) = (meets_members set P.finals).0 ((k.language [] Over.empty).1 t) in
        subst (Has P.finals) (has_pow s z (subst (λ (m : ℕ). Has m z) e a)) b

-- ---- the answer

module _ (one two old : List ℕ) where
  expressible : {new : List ℕ} {n finals x y : ℕ} → Built one two old new n finals x y → Expressible one two (length old)
  expressible b = record { left = b.left; right = b.right; one_is = b.one_is; two_is = b.two_is; enough = omega (arith, b.count, b.fits) }

  pub expressions_honest : (r : Answer) (new : List ℕ) → Answered one two old new r → HonestExpressions one two old r new
  expressions_honest (Ok r) new (b, p) =
      record {
        done = (λ e. expressible b, λ f. refl);
        made = λ e. record {
          built = b;
          speaks = p;
          first_final = start_final {P = made_of r.states r.finals new} b.first_start p.first_speaks;
          second_final = start_final {P = made_of r.states r.finals new} b.second_start p.second_speaks;
        };
        refused = (λ i. absurd i, λ f. f (expressible b));
        refused_by = λ number place text. (λ k. absurd k.0, λ k. absurd (not_refused one two old (expressible b) k));
        among = λ i. absurd i;
        high = λ i. absurd i;
        of_a_text = omega arith;
        quiet = λ i. absurd i;
      }
  expressions_honest (Err f) new ((k, same), _) =
      record {
        done = (λ e. absurd (omega (arith, e, among_high (refusal_among k))), λ f. absurd (not_refused one two old f k));
        made = λ e. absurd (omega (arith, e, among_high (refusal_among k)));
        refused = (λ i f. not_refused one two old f k, λ f. tt);
        refused_by = λ number' place' text'. (λ (i, a, b, c). moved a b c k, λ k'. let e = refusals one two old k k' in (tt, e.0, e.1, e.2));
        among = λ i. refusal_among k;
        high = λ i. among_high (refusal_among k);
        of_a_text = refusal_text k;
        quiet = λ i. same;
      }
    where
      moved : {number' place' text' : ℕ} → number f.fault.why ≡ number' → f.fault.place ≡ place' → f.text ≡ text'
          → Refusal one two old (number f.fault.why) f.fault.place f.text → Refusal one two old number' place' text'
      moved {number'} {place'} a b c h = subst (λ (z : ℕ). Refusal one two old number' place' z) c (subst (λ (z : ℕ). Refusal one two old number' z f.text) b (subst (λ (z : ℕ). Refusal one two old z f.fault.place f.text) a h))
