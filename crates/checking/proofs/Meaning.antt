-- `proved_means_same`, `holding_printed`: where PROVED is printed, X and Y of the file accept the same sequences, and it is printed of the file of
-- evidence that holds, such as what SAME left. Assumes nothing.
use mathlib.Core.Path.{◌≡◌, ap}
use mathlib.Core.List.{List}
use Prim.Native.Nat.{ℕ, ◌*◌, ◌≤◌}
use native.Mathlib.Nat.{mul-le-mul}
use native.Mathlib.Omega.{arith}
use lib.ListN.{get_or}
use Rattle.pattern.specs.Language.{SameLanguage}
use Rattle.evidence.specs.Evidence.{Offer, ValidOffer}
use Rattle.evidence.specs.Meaning.{Holding}
use Rattle.evidence.proofs.CheckHonest.{holding_proved}
use Rattle.evidence.proofs.Meaning.{evidence_means_same}
use Rattle.evidencefile.specs.EvidenceFile.{file_bytes}
use Rattle.evidencefile.proofs.Contents.{Accepted}
use Rattle.evidencefile.proofs.RoundTrip.{file_of}
use Rattle.text.specs.Text.{joined, line, refusal_text}
use Rattle.checking.specs.Checking.{most_rooms, Offers, proved_text, not_proved_text, Prints}
use Rattle.checking.specs.Checking.Prints.{refuses, proved, not_proved}

first_byte : List ℕ → ℕ
first_byte text = get_or text 0 0

pub proved_means_same : {input text : List ℕ} → Prints input text → text ≡ proved_text → (o : Offer) × Offers input o × SameLanguage o.pattern o.x o.y
unfolding proved_text not_proved_text refusal_text line joined first_byte
proved_means_same (refuses r) e = absurd (omega (arith, ap first_byte e))
proved_means_same (proved {o} f k) e = (o, f, evidence_means_same k)
proved_means_same (not_proved f k) e = absurd (omega (arith, ap first_byte e))

pub holding_printed : (o : Offer) → ValidOffer o → Holding o → Prints (file_bytes o) proved_text
holding_printed o v h =
    let most : o.pattern.states * o.pattern.letters ≤ 64 * 32 = mul-le-mul v.pattern.sized.states_fit v.pattern.sized.letters_fit in
    let room : Accepted most_rooms o = record { valid = v; rows_fit = most; lefts_fit = v.pairs_fit; rights_fit = omega (arith, v.pairs_fit, v.sides_match) } in
    proved (file_of most_rooms o room) (holding_proved o v h)
