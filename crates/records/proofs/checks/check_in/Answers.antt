-- `records::checks::check_in` answers for the whole list what the check of the sides that are looked at answers.
use Rattle.comparison.specs.Answers.{question_in}
use Rattle.records.proofs.Gathering.{checks_shown}
use Rattle.records.proofs.checks.check_in.Goals as goal

pub returns : goal.returns
returns g c =
    checks_shown (question_in c.args.question.now) c.args.records.now c.args.n c.gather.new.lefts c.gather.new.rights c.requires.shown c.gather.ensures c.check.ensures
