-- As many places on as there are spaces.
use mathlib.Core.Path.{◌≡◌}
use Prim.Native.Nat.{ℕ}
use lib.Dec.{eqb}
use lib.ListN.{length, drop}
use Rattle.std.proofs.Common.{arith, rules, tests}
use Rattle.std.specs.Prelude.{take_while}
use Rattle.std.proofs.lemmas.Grind.{common_steps}
use Rattle.std.proofs.lemmas.Iterator.{YieldsList-from_slice}
use Rattle.std.proofs.lemmas.Iterator.Consumers.{count_from_yields_List}
use Rattle.std.proofs.lemmas.Iterator.Search.{YieldsList-from_take_while}
use Rattle.expressions.proofs.Looking.{skipped}
use Rattle.expressions.proofs.skip.Goals as goal

pub returns : goal.returns
returns c =
    let text = c.args.text.now in
    let count : c.count.result ≡ length (take_while (λ (b : ℕ). eqb b 32) (drop c.args.at text)) =
    count_from_yields_List c.take_while.result c.count.result c.count.ensures.ran
    (YieldsList-from_take_while _ (λ (b : ℕ). eqb b 32) (YieldsList-from_slice (drop c.args.at text) (grind (arith, common_steps))) c.take_while.ensures.closure c.take_while.ensures.done (λ x b q k. search (rules, tests)))
    in
    skipped text c.args.at c.count.result c.requires count
