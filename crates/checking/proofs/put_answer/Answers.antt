-- `checking::put_answer` puts the answer's line.
use Rattle.checking.specs.Checking.{not_proved_text}
use Rattle.checking.proofs.put_answer.Goals as goal

pub put_head-requires-in-NotProved : goal.put_head-requires-in-NotProved
unfolding not_proved_text
put_head-requires-in-NotProved c = rw c.in-NotProved.is at c.requires

pub returns-in-NotProved : goal.returns-in-NotProved
unfolding not_proved_text
returns-in-NotProved c = rw c.in-NotProved.is c.put_head-in-NotProved.ensures
