-- `text::put_decimal` puts one digit, or the digits of a tenth and then the last.
use Rattle.text.proofs.Decimal.{last_puts, more_puts}
use Rattle.text.proofs.+put_decimal.Goals as goal

pub returns-then-v-lt10 : goal.returns-then-v-lt10
returns-then-v-lt10 t c = last_puts c.if-v-lt10.true c.digit.ensures c.put_byte.ensures

pub returns : goal.returns
returns t c = more_puts c.ranges.v.fits c.if-v-lt10.false c.digit-2.ensures c.put_decimal.ensures c.put_byte-2.ensures
