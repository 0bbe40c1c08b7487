-- `text::put_line` puts the words, and then the newline.
use Rattle.std.proofs.Common.{map}
use Rattle.lent.proofs.Filling.{first_fits, second_fits, both_put}
use Rattle.text.proofs.Lines.{line_parts}
use Rattle.text.proofs.put_line.Goals as goal

pub put_joined-requires : goal.put_joined-requires
put_joined-requires g c = first_fits c.requires (line_parts (map g.W.Words.word_of c.args.values.now))

pub end_line-requires : goal.end_line-requires
end_line-requires g c = second_fits c.requires (line_parts (map g.W.Words.word_of c.args.values.now)) c.put_joined.ensures

pub returns : goal.returns
returns g c = both_put (line_parts (map g.W.Words.word_of c.args.values.now)) c.put_joined.ensures c.end_line.ensures
