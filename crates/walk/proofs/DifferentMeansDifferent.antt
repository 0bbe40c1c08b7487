-- `different_means_different`: the sequence of DIFFERENT is an event sequence, accepted from exactly one start. Assumes nothing.
use mathlib.Core.Path.{◌≡◌, sym, ap, ◌∙◌}
use mathlib.Core.List.{List, []}
use Prim.Native.Nat.{ℕ}
use Rattle.pattern.specs.Pattern.{Sized}
use Rattle.pattern.specs.Language.{accepts}
use Rattle.pattern.proofs.Words.{accepts_reach}
use Rattle.walk.specs.Walk.{Question, Record, Position, upcoming, Agrees, Ends, Walk}
use Rattle.walk.specs.Walk.Outcome.{Different}
use Rattle.walk.specs.Walk.Ends.{different}
use Rattle.walk.specs.Meaning.{Tells}
use Rattle.walk.proofs.Sound.{Sound, walk_sound}
use Rattle.walk.proofs.Leading.{Leads, leads}

tells_apart : {Q : Question} {p : Position} {w : List ℕ} → Leads Q p.kept p.examined w → (Agrees Q (upcoming Q p) → ⊥)
    → accepts Q.pattern Q.left w ≡ accepts Q.pattern Q.right w → ⊥
tells_apart {Q} {p} {w} t f e =
    let P = Q.pattern in
    f (ap (λ (s : ℕ). accepts P s []) (sym t.left) ∙ sym (accepts_reach P Q.left w) ∙ e ∙ accepts_reach P Q.right w ∙ ap (λ (s : ℕ). accepts P s []) t.right)

different_end : {Q : Question} {room : ℕ} {p : Position} {kept : List Record} {e : ℕ} {w : List ℕ} → Sized Q.pattern.states Q.pattern.letters
    → Sound Q p → Ends Q room p (Different kept e w) → Tells Q w
different_end {Q} sized s (different l f a w) =
    let t = leads Q sized.some_letter _ s.reached l w in
    record { letters = t.letters; differ = tells_apart t a }

pub different_means_different : {Q : Question} {room : ℕ} {kept : List Record} {e : ℕ} {u : List ℕ} → Sized Q.pattern.states Q.pattern.letters
    → Walk Q room (Different kept e u) → Tells Q u
different_means_different sized w = different_end sized (walk_sound sized w) w.ends
