-- `probes::probe_close` closes a set where the two sides are of one length, and else refuses.
use borrow.Author.Tests.{eq-eqb, ne_eqb}
use Rattle.verdict.proofs.Ordered.{need_holds, need_fails}
use Rattle.probes.specs.Probes.{sides_test}
use Rattle.probes.proofs.Probing.{probe_done, probe_refused}
use Rattle.probes.proofs.probe_close.Goals as goal

pub returns-then-lefts-rights : goal.returns-then-lefts-rights
unfolding sides_test
returns-then-lefts-rights c = rw c.from.ensures (probe_refused _ (need_fails _ 16 (ne_eqb _ _ c.if-lefts-rights.true)))

pub returns : goal.returns
unfolding sides_test
returns c = rw c.from-2.ensures (probe_done (need_holds _ 16 (eq-eqb _ _ c.if-lefts-rights.false)) c.close.ensures)
