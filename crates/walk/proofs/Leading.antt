-- The word of a candidate leads from the two starts to its two sets, and every candidate has one. Assumes nothing.
use mathlib.Core.Path.{◌≡◌, refl, ap, ◌∙◌}
use mathlib.Core.List.{List, [], ◌∷◌, ◌++◌}
use Prim.Native.Nat.{ℕ, zero, suc, ◌+◌, ◌*◌, ◌/◌, ◌%◌, ◌≤◌, ◌<◌}
use native.Mathlib.Nat.{mod-lt, div-eq_of_lt, mod-eq_of_lt, mul-add-div_right, mul-add-mod_self_right, add-zero}
use native.Mathlib.Omega.{arith}
use lib.ListN.{length, get_or, length-append}
use Rattle.pattern.specs.Language.{next, reach, Over}
use Rattle.pattern.specs.Language.Over.{empty}
use Rattle.pattern.proofs.Words.{reach_snoc, over_snoc}
use Rattle.walk.specs.Walk.{Question, Record, lefts_of, rights_of, parents_of, letters_of, candidate, candidates, Path, Word}
use Rattle.walk.specs.Walk.Word.{first, later}
use Rattle.walk.proofs.Paths.{path_unique}
use Rattle.walk.proofs.Sound.{Reached, from_below}

-- candidate 1 + (i * k + a) is the pair of successors of record i by letter a
pub candidate_at : (Q : Question) (kept : List Record) (i a : ℕ) → a < Q.pattern.letters
    → candidate Q kept (suc (i * Q.pattern.letters + a))
    ≡ record { left = next Q.pattern (get_or (lefts_of kept) i 0) a; right = next Q.pattern (get_or (rights_of kept) i 0) a; parent = i; letter = a }
unfolding candidate
candidate_at Q kept i a h =
    let k = Q.pattern.letters in
    let pos : 0 < k = omega arith in
    let d : (i * k + a) / k ≡ i = mul-add-div_right pos i a ∙ ap (λ (x : ℕ). i + x) (div-eq_of_lt h) ∙ add-zero i in
    let m : (i * k + a) % k ≡ a = mul-add-mod_self_right i k a ∙ mod-eq_of_lt h in
    rw (d, m)

pub record Leads (Q : Question) (kept : List Record) (e : ℕ) (w : List ℕ) : Type 0 where
  pub letters : Over Q.pattern.letters w
  pub short : length w ≤ length kept
  pub left : reach Q.pattern Q.left w ≡ (candidate Q kept e).left
  pub right : reach Q.pattern Q.right w ≡ (candidate Q kept e).right

module _ (Q : Question) (pos : 0 < Q.pattern.letters) (kept : List Record) (all : (i : ℕ) → i < length kept → Reached Q kept i) where
  leads_first : Leads Q kept 0 []
  unfolding candidate reach
  leads_first = record { letters = empty; short = omega arith; left = refl; right = refl }

  leads_later : (e : ℕ) → suc e < candidates Q kept → (w : List ℕ) → Path (parents_of kept) (letters_of kept) (e / Q.pattern.letters) w
      → Leads Q kept (suc e) (w ++ (e % Q.pattern.letters ∷ []))
  unfolding candidate
  leads_later e l w p =
      let k = Q.pattern.letters in
      let P = Q.pattern in
      let b = from_below Q pos kept e l in
      let R = all (e / k) b in
      let z : R.word ≡ w = path_unique R.path p in
      rw (← z) (record {
        letters = over_snoc R.over (mod-lt e pos);
        short = simp length-append (omega (arith, R.short));
        left = reach_snoc P Q.left R.word (e % k) ∙ ap (λ (s : ℕ). next P s (e % k)) R.left;
        right = reach_snoc P Q.right R.word (e % k) ∙ ap (λ (s : ℕ). next P s (e % k)) R.right;
      })

  pub leads : {e : ℕ} {w : List ℕ} → e < candidates Q kept → Word Q kept e w → Leads Q kept e w
  leads l first = leads_first
  leads l (later {e} {w} p) = leads_later e l w p

  pub has_word : (e : ℕ) → e < candidates Q kept → (w : List ℕ) × Word Q kept e w
  has_word zero l = ([], first)
  has_word (suc e) l =
      let R = all (e / Q.pattern.letters) (from_below Q pos kept e l) in
      (R.word ++ (e % Q.pattern.letters ∷ []), later R.path)
