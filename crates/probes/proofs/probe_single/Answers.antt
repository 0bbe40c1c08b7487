-- `probes::probe_single` answers the set of a state below 64, and else refuses.
use borrow.Author.Tests.{lt-ltb, le-ltb}
use Rattle.verdict.proofs.Ordered.{need_holds, need_fails}
use Rattle.probes.specs.Probes.{state_test}
use Rattle.probes.proofs.Probing.{probe_done, probe_refused}
use Rattle.probes.proofs.probe_single.Goals as goal

pub returns-then-s-lt64 : goal.returns-then-s-lt64
unfolding state_test
returns-then-s-lt64 c = rw c.from.ensures (probe_done (need_holds _ 12 (lt-ltb _ _ c.if-s-lt64.true)) c.single.ensures)

pub returns : goal.returns
unfolding state_test
returns c = rw c.from-2.ensures (probe_refused _ (need_fails _ 12 (le-ltb _ _ c.if-s-lt64.false)))
