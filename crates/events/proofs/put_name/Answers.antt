-- `events::put_name` puts the letter's name of the table, or E and then the letter's decimal.
use Rattle.std.proofs.Common.{ℕ, List, ap, arith, Bor}
use Rattle.lent.proofs.Filling.{puts_as, first_fits, second_fits, both_put}
use Rattle.events.proofs.Names.{name_numbered, bytes_at, row_found}
use Rattle.events.proofs.put_name.Goals as goal

pub put_bytes-requires : goal.put_bytes-requires
put_bytes-requires c =
    let found = rw bytes_at at (ap (λ (x : Bor (List ℕ)). x.now) c.in-Some.ensures.lookup.1) in
    rw (row_found c.args.letter _ found c.in-Some.ensures.lookup.3.0 (omega arith)) c.requires

pub returns-in-Some : goal.returns-in-Some
returns-in-Some c =
    let found = rw bytes_at at (ap (λ (x : Bor (List ℕ)). x.now) c.in-Some.ensures.lookup.1) in
    puts_as c.put_bytes.ensures (row_found c.args.letter _ found c.in-Some.ensures.lookup.3.0 (omega arith))

pub put_byte-requires : goal.put_byte-requires
put_byte-requires c = first_fits c.requires (name_numbered c.args.letter (omega (arith, c.in-None.ensures.lookup.3)))

pub put_decimal-requires : goal.put_decimal-requires
put_decimal-requires c = second_fits c.requires (name_numbered c.args.letter (omega (arith, c.in-None.ensures.lookup.3))) c.put_byte.ensures

pub returns-in-None : goal.returns-in-None
returns-in-None c = both_put (name_numbered c.args.letter (omega (arith, c.in-None.ensures.lookup.3))) c.put_byte.ensures c.put_decimal.ensures
