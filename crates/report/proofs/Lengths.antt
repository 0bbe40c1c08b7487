-- How long lines can be: twenty digits to a number, nine bytes to a name. Assumes nothing.
use mathlib.Core.List.{List, [], ◌∷◌, map}
use Prim.Native.Nat.{ℕ, zero, suc, ◌+◌, ◌*◌, ◌<◌, ◌≤◌}
use native.Mathlib.Omega.{arith}
use lib.ListN.{length, take, get_or, length-append}
use Rattle.std.specs.Prelude.{Ok}
use Rattle.lent.specs.declared.Page.{Page}
use Rattle.lent.specs.Page.{HasRoomFor}
use Rattle.comparison.specs.declared.Answer.{Answer}
use Rattle.comparison.specs.Answers.{values_of}
use Rattle.text.specs.Text.{word, decimal, spaced, joined, line}
use Rattle.text.proofs.Decimal.{decimal_short}
use Rattle.text.proofs.Lines.{spaced_length, line_length, whole_length, head_short}
use Rattle.events.specs.Events.{event_name}
use Rattle.events.proofs.Names.{name_short}
use Rattle.report.specs.Report.{longest}
use Rattle.report.specs.Inner.{pair_lines, answer_text, Printable}
use Rattle.report.proofs.Lines.{pair_length}

-- the lines of n records
pairs_short : (n : ℕ) (lefts rights : List ℕ) → length (pair_lines (take n lefts) (take n rights)) ≤ 42 * n
unfolding pair_lines
pairs_short zero lefts rights = omega arith
pairs_short (suc n) [] rights = omega arith
pairs_short (suc n) (l ∷ lefts) [] = omega arith
pairs_short (suc n) (l ∷ lefts) (r ∷ rights) =
    omega (
      arith,
      length-append (line (decimal l ∷ decimal r ∷ [])) (pair_lines (take n lefts) (take n rights)),
      pair_length (decimal l) (decimal r),
      decimal_short l,
      decimal_short r,
      pairs_short n lefts rights,
    )

names_spaced : (n : ℕ) (s : List ℕ) → ((i : ℕ) → get_or s i 0 < 256) → length (spaced (map event_name (take n s))) ≤ 10 * n
unfolding spaced
names_spaced zero s bytes = omega arith
names_spaced (suc n) [] bytes = omega arith
names_spaced (suc n) (a ∷ s) bytes =
    omega (arith, spaced_length (event_name a) (map event_name (take n s)), name_short a (bytes 0), names_spaced n s (λ i. bytes (suc i)))

line_spaced : (ws : List (List ℕ)) → length (line ws) ≤ length (spaced ws) + 1
unfolding joined
line_spaced [] = omega (arith, line_length [])
line_spaced (w ∷ ws) = omega (arith, whole_length w ws, spaced_length w ws)

-- the line of a sequence of n bytes
names_short : (n : ℕ) (s : List ℕ) → ((i : ℕ) → get_or s i 0 < 256) → length (line (map event_name (take n s))) ≤ 10 * n + 1
names_short n s bytes = omega (arith, line_spaced (map event_name (take n s)), names_spaced n s bytes)

-- the text of an answer
text_short : (answer : Answer) (lefts rights sequence : List ℕ) → ((i : ℕ) → get_or sequence i 0 < 256) → (values_of (Ok answer)).length ≤ (values_of (Ok answer)).kept
    → length (answer_text answer lefts rights sequence) ≤ longest (values_of (Ok answer)).kept
unfolding answer_text
text_short (Answer.Same kept examined) lefts rights sequence bytes h =
    omega (
      arith,
      length-append (line (word "SAME" ∷ decimal kept ∷ decimal examined ∷ [])) (pair_lines (take kept lefts) (take kept rights)),
      head_short (word "SAME") (kept ∷ examined ∷ []),
      pairs_short kept lefts rights,
    )
text_short (Answer.Different kept examined size) lefts rights sequence bytes h =
    omega (
      arith,
      length-append (line (word "DIFFERENT" ∷ decimal kept ∷ decimal examined ∷ decimal size ∷ [])) (line (map event_name (take size sequence))),
      head_short (word "DIFFERENT") (kept ∷ examined ∷ size ∷ []),
      names_short size sequence bytes,
    )
text_short (Answer.Full kept examined) lefts rights sequence bytes h = omega (arith, head_short (word "FULL") (kept ∷ examined ∷ []))

pub text_fits : {answer : Answer} {lefts rights sequence : List ℕ} {page : Page} → Printable answer lefts rights sequence page
    → ((i : ℕ) → get_or sequence i 0 < 256) → HasRoomFor page (answer_text answer lefts rights sequence)
text_fits {answer} {lefts} {rights} {sequence} p bytes =
    record { fits = omega (arith, p.text_fits, text_short answer lefts rights sequence bytes p.short) }
