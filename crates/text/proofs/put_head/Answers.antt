-- `text::put_head` puts the name, the numbers with a space in front of each, and the newline.
use Rattle.std.proofs.Common.{map}
use Rattle.text.specs.Text.{decimal}
use Rattle.text.proofs.Lines.{puts_line}
use Rattle.text.proofs.put_head.Goals as goal

pub returns : goal.returns
returns c = puts_line (map decimal c.args.numbers.now) c.put_bytes.ensures c.put_spaced.ensures c.end_line.ensures
