-- From what the reader and the check ensure to what is answered: a file that was read is never refused by the check. Assumes nothing.
use mathlib.Core.Logic.{◌⊎◌, inl, inr}
use mathlib.Core.Path.{◌≡◌, refl, sym, ap, ◌∙◌, subst}
use mathlib.Core.List.{List}
use Prim.Native.Nat.{ℕ, ◌*◌, ◌≤◌}
use native.Mathlib.Omega.{arith}
use lib.ListN.{length, take}
use Rattle.numbers.specs.Numbers.{AreBytes}
use Rattle.numbers.specs.Format.{Reading, got, refused, file_reading}
use Rattle.numbers.proofs.Formats.{IsFile, file_write_after_read}
use Rattle.pattern.specs.Pattern.{Pattern}
use Rattle.patternfile.specs.Reader.{with_rows}
use Rattle.evidence.specs.Evidence.{Offer, ValidOffer, Checked}
use Rattle.evidence.specs.declared.Answer.{Answer}
use Rattle.std.specs.Prelude.{Ok, Err}
use Rattle.verdict.specs.declared.Refusal.{Refusal}
use Rattle.verdict.specs.declared.Fault.{Fault}
use Rattle.verdict.specs.Refusals.{number}
use Rattle.evidence.proofs.CheckHonest.{check_honest}
use Rattle.evidencefile.specs.declared.EvidenceNumbers.{EvidenceNumbers}
use Rattle.evidencefile.specs.EvidenceFile.{Rooms, Lists, rooms_of, numbers_of, evidence_format}
use Rattle.evidencefile.specs.Reader.{with_lists, FileOf, ReadDone, ReadRefused}
use Rattle.evidencefile.proofs.Contents.{Accepted, accepted_valid, OfferOf, fits_offer}
use Rattle.evidencefile.proofs.RoundTrip.{left_offer}
use Rattle.checking.specs.Checking.{most_rooms, Offers, Refuses, Suffices, Answers}
use Rattle.checking.specs.Checking.Answers.{refuses, answers}

-- ---- every input is an offer or is refused

pub offers_valid : {input : List ℕ} {o : Offer} → AreBytes input → Offers input o → ValidOffer o
offers_valid are f = (accepted_valid are f).valid

pub offers_or_refuses : (input : List ℕ) → AreBytes input → ((o : Offer) × Offers input o) ⊎ ((number : ℕ) × (place : ℕ) × Refuses input number place)
offers_or_refuses input are = pick (file_reading (evidence_format most_rooms) input) refl
  where
    pick : (r : Reading) → file_reading (evidence_format most_rooms) input ≡ r → ((o : Offer) × Offers input o) ⊎ ((number : ℕ) × (place : ℕ) × Refuses input number place)
    pick (got vs end) e =
        let file : IsFile (evidence_format most_rooms) vs input end = file_write_after_read (evidence_format most_rooms) input vs end are e in
        let c : OfferOf vs = fits_offer most_rooms vs file.fits in
        inl (c.offer, record { tabled = c.tabled; paired = c.paired; read = e ∙ ap (λ (l : List ℕ). got l end) c.all ∙ ap (got (numbers_of c.offer)) file.takes_all })
    pick (refused number place) e = inr (number, place, e)

-- ---- what was read

rooms_path : {r s : Rooms} → r.rows ≡ s.rows → r.lefts ≡ s.lefts → r.rights ≡ s.rights → r ≡ s
rooms_path rows lefts rights i = record { rows = rows i; lefts = lefts i; rights = rights i }

most : {old : Lists} → Suffices old → rooms_of old ≡ most_rooms
most size = rooms_path size.rows_are size.lefts_are size.rights_are

module _ (input : List ℕ) (old new : Lists) (are : AreBytes input) (size : Suffices old) where
  pub refused_answers : {fault : Fault} → ReadRefused input old (number fault.why) fault.place new → Answers input old (Err fault) new
  refused_answers {fault} told =
      let refuses_it : Refuses input (number fault.why) fault.place =
      subst (λ (r : Rooms). file_reading (evidence_format r) input ≡ refused (number fault.why) fault.place) (most size) told.fault in
      subst (Answers input old (Err fault)) (sym told.unchanged) (refuses refuses_it)

  module _ {f : EvidenceNumbers} (done : ReadDone input old f new) where
    abbrev found : Offer
    found = with_lists f done.rows done.lefts done.rights

    fits : Accepted (rooms_of old) found
    fits = accepted_valid are done.file

    pub few_rows : f.pattern.states * f.pattern.letters ≤ length old.rows
    few_rows = fits.rows_fit

    pub few_lefts : f.pairs ≤ length old.lefts
    few_lefts = omega (arith, fits.lefts_fit, done.counted)

    pub few_rights : f.pairs ≤ length old.rights
    few_rights = omega (arith, fits.rights_fit, done.counted, done.file.paired)

    offers : Offers input found
    offers = subst (λ (r : Rooms). FileOf r input found) (most size) done.file

    -- what is checked: the pattern is told by an equation
    abbrev offered : Pattern → Offer
    offered P = record { pattern = P; x = f.pattern.x; y = f.pattern.y; lefts = take f.pairs new.lefts; rights = take f.pairs new.rights }

    module _ {P : Pattern} (whole : P ≡ with_rows f.pattern (take (f.pattern.states * f.pattern.letters) new.rows)) where
      is_found : offered P ≡ found
      is_found = ap offered whole ∙ left_offer done

      pub accepted_answers : {a : Answer} → Checked (offered P) (Ok a) → Answers input old (Ok a) new
      accepted_answers {a} checked =
          subst (Answers input old (Ok a)) (sym done.written) (answers offers (subst (λ (o : Offer). Checked o (Ok a)) is_found checked))

      -- the check refuses no file that was read
      pub accepted_checked : {why : Refusal} → Checked (offered P) (Err why) → ⊥
      accepted_checked {why} checked = (check_honest (subst (λ (o : Offer). Checked o (Err why)) is_found checked)).refused.0 tt (offers_valid are offers)
