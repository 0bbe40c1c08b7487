-- `comparison::room_test` holds the room against each bound.
use Rattle.std.proofs.Common.{ℕ}
use Rattle.std.specs.Prelude.{leb}
use Rattle.verdict.specs.declared.Refusal.TheVariants.{BadRoom}
use Rattle.verdict.specs.Tests.{need, each}
use Rattle.verdict.proofs.Refusals.{said_held}
use Rattle.comparison.proofs.room_test.Goals as goal

pub returns : goal.returns
unfolding each
returns c = c.every.ensures.each (λ (most : ℕ). need (leb c.args.room most) 13) (λ most r h. cc (said_held (leb c.args.room most) BadRoom))
