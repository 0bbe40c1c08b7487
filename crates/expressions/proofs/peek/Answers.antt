-- A name, or a sign.
use mathlib.Core.Path.{sym, ◌∙◌}
use native.Mathlib.Omega.{arith}
use Rattle.expressions.proofs.Looking.{peek_name, peek_sign}
use Rattle.expressions.proofs.peek.Goals as goal

pub returns-then-in_name : goal.returns-then-in_name
returns-then-in_name c =
    peek_name c.args.text.now c.skip-place.result (omega arith) c.args.at c.run_end-past.result c.name_token-token.result c.skip-place.ensures
    (sym c.in_name.ensures ∙ c.if-in_name.true) c.run_end-past.ensures c.name_token-token.ensures

pub returns : goal.returns
returns c =
    peek_sign c.args.text.now c.skip-place.result (omega arith) c.args.at c.sign_token.result c.skip-place.ensures
    (sym c.in_name.ensures ∙ c.if-in_name.false) c.sign_token.ensures
