-- `numbers::size_all` adds the sizes.
use Rattle.std.proofs.Common.{rules, sym, ◌∙◌, ◌^◌}
use Rattle.std.proofs.lemmas.Iterator.{YieldsList-from_map, YieldsList-from_slice}
use Rattle.std.proofs.lemmas.Iterator.Consumers.{sum_by_from_yields_List, fits_by_from_yields_list}
use lib.ListN.{length}
use native.Mathlib.Omega.{arith}
use Rattle.numbers.specs.Numbers.{encode}
use Rattle.numbers.proofs.ListLoops.{all_sum, all_ten}
use Rattle.numbers.proofs.size_all.Goals as goal

-- a list of 64-bit numbers has at most 2 ^ 60 of them, so ten bytes for each do not wrap
pub sum-requires-clause-fits : goal.sum-requires-clause-fits
sum-requires-clause-fits c =
    fits_by_from_yields_list (λ v. length (encode v)) c.args.list.now c.map.result (2 ^ 64)
    (YieldsList-from_map _ (λ v. length (encode v)) (YieldsList-from_slice c.args.list.now cc) c.map.ensures.closure (λ x r q k. search rules))
    (omega (arith, all_sum c.args.list.now, all_ten c.args.list.now))

pub returns : goal.returns
returns c =
    sum_by_from_yields_List (λ v. length (encode v)) c.args.list.now c.map.result _ c.sum.ensures.ran
    (YieldsList-from_map _ (λ v. length (encode v)) (YieldsList-from_slice c.args.list.now cc) c.map.ensures.closure (λ x r q k. search rules))
    ∙ sym (all_sum c.args.list.now)
