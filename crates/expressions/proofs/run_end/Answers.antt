-- As many places on as there are capitals and digits.
use mathlib.Core.Path.{◌≡◌}
use lib.ListN.{length, drop}
use Rattle.std.proofs.Common.{arith, rules, tests}
use Rattle.std.specs.Prelude.{take_while}
use Rattle.std.proofs.lemmas.Grind.{common_steps}
use Rattle.std.proofs.lemmas.Iterator.{YieldsList-from_slice}
use Rattle.std.proofs.lemmas.Iterator.Consumers.{count_from_yields_List}
use Rattle.std.proofs.lemmas.Iterator.Search.{YieldsList-from_take_while}
use Rattle.expressions.specs.Texts.{in_name}
use Rattle.expressions.proofs.Looking.{run_ended}
use Rattle.expressions.proofs.run_end.Goals as goal

pub returns : goal.returns
returns c =
    let text = c.args.text.now in
    let count : c.count.result ≡ length (take_while in_name (drop c.args.at text)) =
    count_from_yields_List c.take_while.result c.count.result c.count.ensures.ran
    (YieldsList-from_take_while _ in_name (YieldsList-from_slice (drop c.args.at text) (grind (arith, common_steps))) c.take_while.ensures.closure c.take_while.ensures.done (λ x b q k. search (rules, tests)))
    in
    run_ended text c.args.at c.count.result c.requires count
