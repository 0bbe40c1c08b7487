-- Nothing is against an offer exactly where it is valid. Assumes nothing.
use mathlib.Core.Path.{◌≡◌, refl}
use mathlib.Core.Logic.{◌↔◌}
use mathlib.Core.Bool.{and-eq-true_iff}
use mathlib.Core.List.{List}
use Prim.Native.Nat.{ℕ, ◌≤◌}
use lib.ListN.{length}
use lib.Dec.{leb, eqb}
use borrow.Author.Tests.{leb-true, le-leb, eqb-true, eq-eqb}
use Rattle.verdict.specs.Verdict.Verdict.{Fine}
use Rattle.verdict.proofs.Ordered.{need_holds, need_fine, order_fine}
use Rattle.sets.specs.Sets.{Good}
use Rattle.sets.specs.Rooms.{max_room}
use Rattle.pattern.specs.Pattern.{AllGood}
use Rattle.pattern.proofs.Validity.{set_fine, sets_fine, shape_fine, masks_fine}
use Rattle.evidence.specs.Evidence.{Offer, ValidOffer, list_test, pairs_test, check_test}

pub list_fine : (lefts rights : ℕ) → (list_test lefts rights ≡ Fine) ↔ ((lefts ≤ max_room) × (lefts ≡ rights))
unfolding list_test
list_fine lefts rights = (
  λ e. let (p, q) = (and-eq-true_iff (leb lefts max_room) (eqb lefts rights)).0 (need_fine _ 16 e) in (leb-true lefts max_room p, eqb-true lefts rights q),
  λ (p, q). need_holds _ 16 (rw (le-leb lefts max_room p, eq-eqb lefts rights q) refl),
)

-- 12 for X, Y and the pairs
pub pairs_fine : (n x y : ℕ) (lefts rights : List ℕ) → (pairs_test n x y lefts rights ≡ Fine) ↔ (Good n x × Good n y × AllGood n lefts × AllGood n rights)
unfolding pairs_test
pairs_fine n x y lefts rights = (
  λ e. let (p, (q, (l, (r, _)))) = (order_fine _).0 e in ((set_fine n x).0 p, (set_fine n y).0 q, (sets_fine n lefts).0 l, (sets_fine n rights).0 r),
  λ (p, q, l, r). (order_fine _).1 ((set_fine n x).1 p, ((set_fine n y).1 q, ((sets_fine n lefts).1 l, ((sets_fine n rights).1 r, tt)))),
)

pub offer_valid : (o : Offer) → (check_test o ≡ Fine) ↔ ValidOffer o
unfolding check_test
offer_valid o = (to, fro)
  where
    to : check_test o ≡ Fine → ValidOffer o
    to e =
        let all = (order_fine _).0 e in
        let (sized, tabled) = (shape_fine o.pattern).0 search in
        let (finals, rows) = (masks_fine o.pattern).0 search in
        let (fit, match) = (list_fine (length o.lefts) (length o.rights)).0 search in
        let (x, y, lefts, rights) = (pairs_fine o.pattern.states o.x o.y o.lefts o.rights).0 search in
        record {
          pattern = record { sized = sized; tabled = tabled; finals_good = finals; rows_good = rows };
          pairs_fit = fit;
          sides_match = match;
          x_good = x;
          y_good = y;
          lefts_good = lefts;
          rights_good = rights;
        }

    fro : ValidOffer o → check_test o ≡ Fine
    fro v =
        let shape = (shape_fine o.pattern).1 (v.pattern.sized, v.pattern.tabled) in
        let list = (list_fine (length o.lefts) (length o.rights)).1 (v.pairs_fit, v.sides_match) in
        let masks = (masks_fine o.pattern).1 (v.pattern.finals_good, v.pattern.rows_good) in
        let pairs = (pairs_fine o.pattern.states o.x o.y o.lefts o.rights).1 (v.x_good, v.y_good, v.lefts_good, v.rights_good) in
        (order_fine _).1 (search)
