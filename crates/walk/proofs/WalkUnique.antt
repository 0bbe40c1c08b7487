-- `walk_unique`: one question and room have one outcome, records, counts and sequence. Assumes nothing.
use mathlib.Core.Path.{◌≡◌, refl, sym, ap, subst}
use mathlib.Core.List.{List, [], ◌∷◌, ◌++◌}
use Prim.Native.Nat.{ℕ, suc, ◌%◌}
use native.Mathlib.Omega.{arith}
use Rattle.walk.specs.Walk.{Question, Record, Position, Moves, Word, Outcome, Ends, Moved, Walk}
use Rattle.walk.specs.Walk.Moves.{skipped}
use Rattle.walk.specs.Walk.Word.{first, later}
use Rattle.walk.specs.Walk.Outcome.{Different}
use Rattle.walk.specs.Walk.Ends.{same, different, full}
use Rattle.walk.specs.Walk.Moved.{stay, go}
use Rattle.walk.proofs.Paths.{path_unique}

word_unique : {Q : Question} {kept : List Record} {e : ℕ} {v w : List ℕ} → Word Q kept e v → Word Q kept e w → v ≡ w
word_unique first first = refl
word_unique {Q} (later {e} p) (later q) = ap (λ (u : List ℕ). u ++ (e % Q.pattern.letters ∷ [])) (path_unique p q)

module _ {Q : Question} {room : ℕ} where
  moves_unique : {p q r : Position} → Moves Q room p q → Moves Q room p r → q ≡ r
  moves_unique (skipped l c) (skipped l' c') = refl
  moves_unique (skipped l c) (Moves.kept l' f a h) = absurd (f c)
  moves_unique (Moves.kept l f a h) (skipped l' c) = absurd (f c)
  moves_unique (Moves.kept l f a h) (Moves.kept l' f' a' h') = refl

  ends_unique : {p : Position} {o o' : Outcome} → Ends Q room p o → Ends Q room p o' → o ≡ o'
  ends_unique (same n) (same n') = refl
  ends_unique (same n) (different l f a w) = absurd (n l)
  ends_unique (same n) (full l f a h) = absurd (n l)
  ends_unique (different l f a w) (same n) = absurd (n l)
  ends_unique {p} (different l f a w) (different l' f' a' w') = ap (Different p.kept (suc p.examined)) (word_unique w w')
  ends_unique (different l f a w) (full l' f' a' h) = absurd (a a')
  ends_unique (full l f a h) (same n) = absurd (n l)
  ends_unique (full l f a h) (different l' f' a' w) = absurd (a' a)
  ends_unique (full l f a h) (full l' f' a' h') = refl

  -- where the walk ends it does not go on
  no_move : {p q : Position} {o : Outcome} → Ends Q room p o → Moves Q room p q → ⊥
  no_move (same n) (skipped l c) = n l
  no_move (same n) (Moves.kept l f a h) = n l
  no_move (different l f a w) (skipped l' c) = f c
  no_move (different l f a w) (Moves.kept l' f' a' h) = a a'
  no_move (full l f a h) (skipped l' c) = f c
  no_move (full l f a h) (Moves.kept l' f' a' h') = absurd (omega arith)

  -- from any position there is one outcome
  pub ends_alike : {p q r : Position} {o o' : Outcome} → Moved Q room p q → Ends Q room q o → Moved Q room p r → Ends Q room r o' → o ≡ o'
  ends_alike stay e stay e' = ends_unique e e'
  ends_alike stay e (go m n) e' = absurd (no_move e m)
  ends_alike (go m n) e stay e' = absurd (no_move e' m)
  ends_alike {r = r} (go m n) e (go m' n') e' = ends_alike n e (subst (λ (s : Position). Moved Q room s r) (sym (moves_unique m m')) n') e'

pub walk_unique : {Q : Question} {room : ℕ} {o o' : Outcome} → Walk Q room o → Walk Q room o' → o ≡ o'
walk_unique v w = ends_alike v.moved v.ends w.moved w.ends
