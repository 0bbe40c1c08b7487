-- `lent::Page::put_bytes`: the page's place stays, and behind the bytes that are put those from the index on are left.
use Rattle.std.proofs.Common.{◌≡◌, ◌+◌, drop}
use Rattle.lent.proofs.Filling.{ToPut}
use Rattle.lent.proofs.Page.put_bytes.Given as goal

abbrev pub invariant-loop-i : goal.invariant-loop-i
invariant-loop-i l = (l.self.at ≡ l.fn.self.at) × ToPut l.fn.self l.fn.bytes (record { out = l.self.out; at = l.self.at + l.i }) (drop l.i l.bytes)
