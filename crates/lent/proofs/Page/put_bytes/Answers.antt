-- `lent::Page::put_bytes` puts its bytes, in each turn the next of those that are left.
use mathlib.Core.Path.{refl}
use native.Mathlib.Nat.{add-zero}
use lib.ListN.{drop_of_length-le}
use Rattle.std.proofs.Common.{◌≡◌, ℕ, ◌+◌, ◌<◌, [], ◌∷◌, length, slice_set, arith}
use Rattle.lent.specs.declared.Page.{Page}
use Rattle.lent.specs.Page.{Puts}
use Rattle.lent.proofs.Putting.{put_one, drop_step}
use Rattle.lent.proofs.Filling.{Splits, to_put_first, to_put_fits, to_put_step, to_put_done}
use Rattle.lent.proofs.Page.put_bytes.Goals as goal

-- a byte that is written at the place of a page is put on it
written : {page new : Page} (place byte : ℕ) → page.at < length page.out.now → place ≡ page.at → new.at ≡ page.at + 1
    → new.out.now ≡ slice_set page.out.now place byte → new.out.ghost_name ≡ page.out.ghost_name → Puts page (byte ∷ []) new
written {page} place byte h e a w g = record { put = rw (w, e, a) (put_one page.out.now page.at byte h); same_buffer = g }

pub loop-i-init : goal.loop-i-init
loop-i-init c = (refl, rw (add-zero c.args.self.now.at) (to_put_first c.args.self.now c.args.bytes.now c.requires))

pub loop-i-preserved : goal.loop-i-preserved
loop-i-preserved c =
    let next : Splits _ (_ ∷ []) _ = record { parts = drop_step c.args.bytes.now c.loop-i.i c.loop-i-test.true } in
    let room = to_put_fits c.loop-i.invariant.1 next in
    (c.loop-i.invariant.0, to_put_step c.loop-i.invariant.1 next (written _ _ (omega (arith, room.fits)) (omega arith) (omega arith) refl refl))

pub returns : goal.returns
returns c =
    let end : c.loop-i.i ≡ length c.args.bytes.now = omega (arith, c.loop-i.auto.i-end, c.loop-i-test.false) in
    rw end at (to_put_done c.loop-i.invariant.1 (drop_of_length-le c.args.bytes.now c.loop-i-test.false))
