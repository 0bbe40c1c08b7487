-- `probes::probe_next` answers so for every set of finals, which no successor looks at.
use Rattle.pattern.specs.Tests.{shape_test}
use Rattle.pattern.specs.Language.{next}
use Rattle.probes.specs.Probes.{next_test}
use Rattle.probes.proofs.probe_next.Goals as goal

pub returns : goal.returns
unfolding next_test shape_test next
returns c finals = rw (c.from-2.ensures, ← c.from.ensures) c.next.ensures
