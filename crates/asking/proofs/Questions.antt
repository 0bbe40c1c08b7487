-- What bytes ask: one question, which is proper; or they are refused, in one way. Assumes nothing.
use mathlib.Core.Logic.{◌⊎◌, inl, inr}
use mathlib.Core.Path.{◌≡◌, refl, sym, ap, ◌∙◌}
use mathlib.Core.List.{List, [], ◌∷◌, ◌++◌}
use Prim.Native.Nat.{ℕ, ◌*◌}
use lib.ListN.{length}
use Rattle.numbers.specs.Numbers.{AreBytes}
use Rattle.numbers.specs.Format.{Reading, got, refused, file_reading}
use Rattle.numbers.proofs.Formats.{refused_got, IsFile, file_write_after_read}
use Rattle.patternfile.specs.PatternFile.{numbers_of, pattern_format}
use Rattle.patternfile.proofs.Contents.{accepted_valid, NumbersOf, fits_numbers}
use Rattle.patternfile.proofs.Determined.{same_rows}
use Rattle.walk.specs.Walk.{Question}
use Rattle.walk.specs.Meaning.{Proper}
use Rattle.asking.specs.Asking.{row_room, Asks, Refuses}

question_path : {p q : Question} → p.pattern.states ≡ q.pattern.states → p.pattern.letters ≡ q.pattern.letters → p.pattern.finals ≡ q.pattern.finals
    → p.pattern.rows ≡ q.pattern.rows → p.left ≡ q.left → p.right ≡ q.right → p ≡ q
question_path n k f rows x y i = record { pattern = record { states = n i; letters = k i; finals = f i; rows = rows i }; left = x i; right = y i }

-- a file is that of one question
pub asks_one : {input : List ℕ} {Q R : Question} → Asks input Q → Asks input R → Q ≡ R
asks_one {input} {Q} {R} a b =
    let P = Q.pattern in
    let S = R.pattern in
    let e : got (numbers_of P Q.left Q.right) (length input) ≡ got (numbers_of S R.left R.right) (length input) = sym a.read ∙ b.read in
    let n : P.states ≡ S.states = cc in
    let k : P.letters ≡ S.letters = cc in
    let f : P.finals ≡ S.finals = cc in
    let all : P.rows ++ (Q.left ∷ Q.right ∷ []) ≡ S.rows ++ (R.left ∷ R.right ∷ []) = cc in
    let m : P.states * P.letters ≡ S.states * S.letters = rw (n, k) in
    let (rows, starts) = same_rows P.rows S.rows Q.left Q.right R.left R.right (a.tabled ∙ m ∙ sym b.tabled) all in
    let x : Q.left ≡ R.left = cc in
    let y : Q.right ≡ R.right = cc in
    question_path n k f rows x y

-- its pattern is valid, and X and Y are sets of its states
pub asks_proper : {input : List ℕ} {Q : Question} → AreBytes input → Asks input Q → Proper Q
asks_proper are a = let c = accepted_valid are a in record { valid = c.valid; left_good = c.good_x; right_good = c.good_y }

pub asked_or_refused : {input : List ℕ} {Q : Question} {number place : ℕ} → Asks input Q → Refuses input number place → ⊥
asked_or_refused a r = refused_got (sym r ∙ a.read)

pub one_refusal : (input : List ℕ) {number place number' place' : ℕ} → Refuses input number place → Refuses input number' place' → (number ≡ number') × (place ≡ place')
one_refusal input {number} {place} {number'} {place'} r s = let e : refused number place ≡ refused number' place' = sym r ∙ s in (cc, cc)

-- ---- every input asks or is refused

pub asks_or_refuses : (input : List ℕ) → AreBytes input → ((Q : Question) × Asks input Q) ⊎ ((number : ℕ) × (place : ℕ) × Refuses input number place)
asks_or_refuses input are = pick (file_reading (pattern_format row_room) input) refl
  where
    pick : (r : Reading) → file_reading (pattern_format row_room) input ≡ r → ((Q : Question) × Asks input Q) ⊎ ((number : ℕ) × (place : ℕ) × Refuses input number place)
    pick (got vs end) e =
        let file : IsFile (pattern_format row_room) vs input end = file_write_after_read (pattern_format row_room) input vs end are e in
        let c : NumbersOf vs = fits_numbers row_room vs file.fits in
        let Q : Question = record { pattern = c.pattern; left = c.x; right = c.y } in
        inl (Q, record { tabled = c.tabled; read = e ∙ ap (λ (l : List ℕ). got l end) c.all ∙ ap (got (numbers_of c.pattern c.x c.y)) file.takes_all })
    pick (refused number place) e = inr (number, place, e)
