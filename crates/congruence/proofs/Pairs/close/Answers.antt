-- `congruence::Pairs::close` closes the set: growth toward every state ends in a closed one.
use mathlib.Core.Logic.{⊎_elim}
use Rattle.congruence.proofs.Passes.{every_state_closed}
use Rattle.congruence.proofs.Pairs.close.Goals as goal

pub returns : goal.returns
returns c = record {
  grown = c.grow.ensures.grown;
  still = ⊎_elim (every_state_closed {n = 64} c.args.self.now.paired c.all_fit.ensures c.all_fit-2.ensures) (λ s. s) c.grow.ensures.ended;
}
