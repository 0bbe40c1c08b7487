-- One mark more.
use mathlib.Core.Path.{sym, ◌∙◌}
use native.Mathlib.Omega.{arith}
use Rattle.expressions.proofs.Marking.{Goes, marks_first, marks_step, marks_done, mark_ahead, peek_le}
use Rattle.expressions.proofs.Marking.Goes.{back, on}
use Rattle.expressions.proofs.marks.Goals as goal
use Rattle.expressions.proofs.marks.Goals.{then-loops, else-loops}

pub loop-x-init : goal.loop-x-init
loop-x-init c = marks_first c.args.text.now c.args.x c.args.tables.now c.requires

pub peek-x-requires : goal.peek-x-requires
peek-x-requires c = (mark_ahead c.loop-x.invariant.looks c.in-Postfix.is).within

pub loop-x-smaller : goal.loop-x-smaller
loop-x-smaller c =
    let ahead = mark_ahead c.loop-x.invariant.looks c.in-Postfix.is in
    omega (arith, peek_le c.peek-x.ensures, c.peek-x.ensures.looks.inside)

pub loop-x-preserved : goal.loop-x-preserved
loop-x-preserved c =
    let m = c.in-Postfix.mark in
    let x = c.loop-x.x in
    let goes : Goes m x.first x.last c.loop-x.tables c.if-loops.tables =
    elim c.if-loops.branch [
      | then-loops w ↦ back (sym c.loops.ensures ∙ w.if-loops.true) (rw w.tables-is w.link.ensures)
      | else-loops w ↦ on (sym c.loops.ensures ∙ w.if-loops.false) w.tables-is
    ]
    in
    rw c.takes_empty.ensures
    (marks_step c.args.text.now c.args.x c.args.tables.now c.loop-x.tables c.if-loops.tables x m c.peek-x.result c.loop-x.invariant c.in-Postfix.is
    goes c.peek-x.ensures)

pub returns : goal.returns
returns c = marks_done c.loop-x.invariant c.in_default.not-Postfix
