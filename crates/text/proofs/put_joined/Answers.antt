-- `text::put_joined` puts the first word, and then the others with a space in front of each.
use Rattle.std.proofs.Common.{arith}
use Rattle.lent.proofs.Filling.{puts_none, puts_as, first_fits, second_fits, both_put}
use Rattle.text.specs.Text.{spaced}
use Rattle.text.proofs.Lines.{joined_none, joined_some}
use Rattle.text.proofs.put_joined.Goals as goal

pub put-requires : goal.put-requires
put-requires g c = first_fits c.requires (joined_some g.W.Words.word_of c.in-Some.ensures.cases.0)

pub put_spaced-requires : goal.put_spaced-requires
unfolding spaced
put_spaced-requires g c =
    let room = second_fits c.requires (joined_some g.W.Words.word_of c.in-Some.ensures.cases.0) c.put.ensures in
    record { fits = omega (arith, room.fits) }

pub returns-in-Some : goal.returns-in-Some
returns-in-Some g c = both_put (joined_some g.W.Words.word_of c.in-Some.ensures.cases.0) c.put.ensures c.put_spaced.ensures

pub returns-in_default : goal.returns-in_default
returns-in_default g c =
    puts_as (puts_none c.args.page.now (omega (arith, c.requires.fits))) (joined_none g.W.Words.word_of c.args.values.now c.in_default.ensures.cases)
