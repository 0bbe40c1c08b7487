-- `pattern::size_test` is the definition of that name.
use Rattle.std.proofs.Common.{rules, ◌≡◌}
use Rattle.std.specs.Prelude.{◌&&◌, nat_le}
use Rattle.verdict.proofs.Refusals.{said_held}
use Rattle.pattern.specs.Tests.{size_test}
use Rattle.pattern.proofs.size_test.Goals as goal

pub returns : goal.returns
unfolding size_test
returns c =
    let e : c.contains.result ≡ (nat_le 1 c.args.v && nat_le c.args.v c.args.most) = search rules in
    rw (c.need.ensures, e) (said_held _ _)
