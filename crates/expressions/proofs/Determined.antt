-- Two results that the statement allows on the same texts and rows are equal.
use mathlib.Core.Path.{◌≡◌, refl, sym, ap, ap₂, ◌∙◌, subst}
use mathlib.Core.List.{List}
use Prim.Native.Nat.{ℕ, ◌+◌, ◌*◌, ◌/◌, ◌%◌, ◌^◌, ◌<◌}
use native.Mathlib.Decide.{dec_lt}
use native.Mathlib.Omega.{arith}
use lib.ListN.{length, get_or}
use lib.Seq.{ext_get_or}
use Rattle.std.specs.Prelude.{Ok, Err}
use Rattle.verdict.specs.declared.Refusal.{Refusal as Why}
use Rattle.verdict.specs.Refusals.{number}
use Rattle.verdict.proofs.Refusals.{one_refusal}
use Rattle.expressions.specs.Expressions.{Expr}
use Rattle.expressions.specs.Positions.{second, states, Together}
use Rattle.expressions.specs.Answers.{Fine, FineSecond, WrongSecond, FirstSecond, Refusal, Built, Answer, Expressed}
use Rattle.expressions.specs.Answers.Refusal.{first_text, second_text, no_room}
use Rattle.expressions.specs.Languages.{Answered}
use Rattle.expressions.specs.Meaning.{Expressible}
use Rattle.expressions.specs.declared.TextPattern.{TextPattern}
use Rattle.expressions.specs.declared.TextFault.{TextFault}
use Rattle.expressions.proofs.Faults.{one_first, one_meaning}

same_fault : (f g : TextFault) → number f.fault.why ≡ number g.fault.why → f.fault.place ≡ g.fault.place → f.text ≡ g.text → f ≡ g
same_fault f g a b c = alike (one_refusal a) b c
  where
    alike : {v w : Why} {p q t u : ℕ} → v ≡ w → p ≡ q → t ≡ u
        → ◌≡◌ {A = TextFault} (record { fault = record { why = v; place = p }; text = t }) (record { fault = record { why = w; place = q }; text = u })
    alike d e f = cc

-- ---- the answer

module _ (one two rows : List ℕ) where
  same_tree : {e f : Expr} → Fine one 1 e → Fine one 1 f → e ≡ f
  same_tree {e} {f} p q = one_meaning one e f p.means q.means

  -- nothing is wrong with the second text, and something is
  clash : {e e' f : Expr} {n p : ℕ} → Fine one 1 e → Fine one 1 e' → FineSecond two (second e') f → FirstSecond two (second e) n p → ⊥
  clash {e} {e'} {n = n} {p} a b c d = c.faultless n p (subst (λ (z : Expr). WrongSecond two (second z) n p) (same_tree a b) d.wrong)

  pub refusals : {n p t n' p' t' : ℕ} → Refusal one two rows n p t → Refusal one two rows n' p' t' → (n ≡ n') × (p ≡ p') × (t ≡ t')
  refusals (first_text f) (first_text g) = let k = one_first f g in (k.0, k.1, refl)
  refusals (first_text {number = n} {place = p} f) (second_text a b) = absurd (a.faultless n p f.wrong)
  refusals (first_text {number = n} {place = p} f) (no_room a b l) = absurd (a.faultless n p f.wrong)
  refusals (second_text a b) (first_text {number = n} {place = p} f) = absurd (a.faultless n p f.wrong)
  refusals (second_text a b) (second_text {number = m} {place = q} c d) =
      let k = one_first b (subst (λ (z : Expr). FirstSecond two (second z) m q) (same_tree c a) d) in (k.0, k.1, refl)
  refusals (second_text a b) (no_room c d l) = absurd (clash a c d b)
  refusals (no_room a b l) (first_text {number = n} {place = p} f) = absurd (a.faultless n p f.wrong)
  refusals (no_room a b l) (second_text c d) = absurd (clash c a b d)
  refusals (no_room a b l) (no_room c d m) = (refl, refl, refl)

  same_both : {e e' f f' : Expr} → Fine one 1 e → Fine one 1 e' → FineSecond two (second e) f → FineSecond two (second e') f' → (e ≡ e') × (f ≡ f')
  same_both {f = f} {f'} a b c d = (same_tree a b, one_meaning two f f' c.means d.means)

  pub expressible : {rows' : List ℕ} {n x y z : ℕ} → Built one two rows rows' n x y z → Expressible one two (length rows)
  expressible b = record { left = b.left; right = b.right; one_is = b.one_is; two_is = b.two_is; enough = omega (arith, b.count, b.fits) }

  -- what can be made a pattern is not refused
  pub not_refused : {p q t : ℕ} → Expressible one two (length rows) → Refusal one two rows p q t → ⊥
  not_refused b (first_text {number = m} {place = q} f) = b.one_is.faultless m q f.wrong
  not_refused b (second_text a c) = clash a b.one_is b.two_is c
  not_refused b (no_room {e} {f} a c m) =
      let k = same_both a b.one_is c b.two_is in
      omega (arith, b.enough, m, ap₂ states k.0 k.1)

  module _ {a b : List ℕ} {n x y z n' x' y' z' : ℕ} (p : Built one two rows a n x y z) (q : Built one two rows b n' x' y' z') where
    trees : (p.left ≡ q.left) × (p.right ≡ q.right)
    trees = same_both p.one_is q.one_is p.two_is q.two_is

    moved : Together p.left p.right b x'
    moved = subst (λ (e : Expr). Together e p.right b x') (sym trees.0) (subst (λ (f : Expr). Together q.left f b x') (sym trees.1) q.together)

    counts : n ≡ n'
    counts = p.count ∙ ap₂ states trees.0 trees.1 ∙ sym q.count

    same_rows : a ≡ b
    same_rows = ext_get_or 0 a b (p.long ∙ sym q.long) (λ i l. go i (dec_lt i (n * 32)))
      where
        at : (i : ℕ) → i < n * 32 → get_or a (i / 32 * 32 + i % 32) 0 ≡ get_or b (i / 32 * 32 + i % 32) 0
        at i l =
            p.together.row (i / 32) (i % 32) (omega (arith, p.count)) (omega arith)
            ∙ sym (moved.row (i / 32) (i % 32) (omega (arith, p.count)) (omega arith))

        go : (i : ℕ) → Dec (i < n * 32) → get_or a i 0 ≡ get_or b i 0
        go i (yes l) = subst (λ (j : ℕ). get_or a j 0 ≡ get_or b j 0) (let e : i / 32 * 32 + i % 32 ≡ i = omega arith in e) (at i l)
        go i (no l) = p.rest i (omega arith) ∙ sym (q.rest i (omega (arith, counts)))

    same_pattern : ◌≡◌ {A = TextPattern} (record { states = n; finals = x; x = y; y = z }) (record { states = n'; finals = x'; x = y'; y = z' })
    same_pattern =
        let f : x ≡ x' = p.together.final ∙ sym moved.final in
        let g : y ≡ y' = p.first_start ∙ sym q.first_start in
        let h : z ≡ z' = p.second_start ∙ ap (λ (e : Expr). 2 ^ second e) trees.0 ∙ sym q.second_start in
        let k : n ≡ n' = counts in
        cc

  -- the statement determines the answer and the rows
  pub determined : (a b : List ℕ) (r s : Answer) → Expressed one two rows a r → Expressed one two rows b s → (r ≡ s) × (a ≡ b)
  determined a b (Ok f) (Ok g) p q = (ap Ok (same_pattern p q), same_rows p q)
  determined a b (Ok f) (Err g) p q = absurd (not_refused (expressible p) q.0)
  determined a b (Err f) (Ok g) p q = absurd (not_refused (expressible q) p.0)
  determined a b (Err f) (Err g) p q = let k = refusals p.0 q.0 in (ap Err (same_fault f g k.0 k.1 k.2), p.1 ∙ sym q.1)

  pub answer_determined : (a b : List ℕ) (r s : Answer) → Answered one two rows a r → Answered one two rows b s → (r ≡ s) × (a ≡ b)
  answer_determined a b r s p q = determined a b r s p.0 q.0
