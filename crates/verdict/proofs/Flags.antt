-- Flags: one that decides something is told by it and determined by it; two of them compared. Assumes nothing.
use mathlib.Core.Path.{◌≡◌, refl, sym}
use mathlib.Core.Bool.{Bool, true, false, not, beq, true≢false}
use borrow.Author.Tests.{not-true, not-false}
use Rattle.verdict.specs.Tests.{Decides}

-- ---- a flag that decides something

pub decided_yes : {A : Type 0} → A → Decides A true
decided_yes h = record { sound = λ e. h; complete = λ e. absurd (true≢false e) }

pub decided_no : {A : Type 0} → (A → ⊥) → Decides A false
decided_no f = record { sound = λ e. absurd (true≢false (sym e)); complete = λ e. f }

pub decides_determined : {A : Type 0} (p q : Bool) → Decides A p → Decides A q → p ≡ q
decides_determined true true d e = refl
decides_determined true false d e = absurd (e.complete refl (d.sound refl))
decides_determined false true d e = absurd (d.complete refl (e.sound refl))
decides_determined false false d e = refl

-- ---- two flags, by the tests `p == q` and `p != q`

pub flags_yes : (p q : Bool) → beq p q ≡ true → p ≡ q
flags_yes true true e = refl
flags_yes true false e = sym e
flags_yes false true e = e
flags_yes false false e = refl

pub flags_no : (p q : Bool) → beq p q ≡ false → p ≡ q → ⊥
flags_no true true e d = true≢false e
flags_no true false e d = true≢false d
flags_no false true e d = true≢false (sym d)
flags_no false false e d = true≢false e

pub flags_agree : (p q : Bool) → not (beq p q) ≡ false → p ≡ q
flags_agree p q e = flags_yes p q (not-false _ e)

pub flags_differ : (p q : Bool) → not (beq p q) ≡ true → p ≡ q → ⊥
flags_differ p q e = flags_no p q (not-true _ e)
