-- Each reader tells what it read, or the first fault.
use mathlib.Core.Path.{◌≡◌, refl, sym, ap}
use mathlib.Core.Logic.{inl, inr}
use mathlib.Core.Bool.{true, false}
use native.Mathlib.Omega.{arith}
use lib.ListN.{length}
use Rattle.std.proofs.Common.{rules}
use Rattle.std.proofs.lemmas.Nat.{one_shl}
use Rattle.std.proofs.lemmas.Result.{err_from_is_err_and}
use Rattle.expressions.specs.declared.Look.{Look}
use Rattle.expressions.specs.declared.Token.TheVariants.{Bar, Close}
use Rattle.expressions.proofs.Looking.{letter_below}
use Rattle.expressions.proofs.Parts.{token_ahead, event_at, one_at, zero_at, open_at, close_at, core_gap, core_letter, core_unit, core_void, core_group}
use Rattle.expressions.proofs.Marking.{peek_le}
use Rattle.expressions.proofs.Readers.{made_later, made_more, begun_later, alt_first, alt_ahead, alt_asks, alt_step, alt_fault, seq_first, seq_step, seq_fault, head_fault, not_begins, none_fault, many_fault, deep_fault, inner_fault, close_fault}
use Rattle.expressions.proofs.+readers.Goals as goal
use Rattle.expressions.proofs.+readers.Goals.{factor-in-Event+else-used-ge-MOST_STATES, factor-in-One, factor-in-Zero, factor-in-Open+else-depth-ge-MOST_OPEN+in_ok-inner-in-Open+else-ne}

-- ---- sequences with bars between them

pub alternation-loop-tables-init : goal.alternation-loop-tables-init
alternation-loop-tables-init t c = alt_first c.in_ok-x.ensures

pub alternation-sequence-requires-in-loop-tables : goal.alternation-sequence-requires-in-loop-tables
alternation-sequence-requires-in-loop-tables t c =
    let b = c.loop-tables.invariant in
    let bar : c.loop-tables.x.next.token ≡ Bar = search rules in
    let ahead = alt_ahead b bar in
    (omega (arith, begun_later b), alt_asks b bar c.requires.shallow)

pub alternation-returns-in_err-y : goal.alternation-returns-in_err-y
alternation-returns-in_err-y t c =
    let bar : c.loop-tables.x.next.token ≡ Bar = search rules in
    let p = err_from_is_err_and c.from_residual-in_err-y.result c.from_residual-in_err-y.ensures.1 in
    rw (p.1, p.2) (alt_fault c.loop-tables.invariant bar c.in_err-y.ensures)

pub alternation-loop-tables-smaller : goal.alternation-loop-tables-smaller
alternation-loop-tables-smaller t c =
    let bar : c.loop-tables.x.next.token ≡ Bar = search rules in
    let ahead = alt_ahead c.loop-tables.invariant bar in
    let y = c.in_ok-y.ensures in
    omega (arith, made_later y, y.looks.inside, ap (λ (k : Look). k.place) c.parted-x.ensures.next)

pub alternation-loop-tables-preserved : goal.alternation-loop-tables-preserved
alternation-loop-tables-preserved t c =
    let bar : c.loop-tables.x.next.token ≡ Bar = search rules in
    alt_step c.loop-tables.invariant bar c.in_ok-y.y c.parted-x.result c.in_ok-y.ensures c.parted-x.ensures

-- ---- names, and an alternation in parentheses

pub factor-returns-then-used-ge-MOST_STATES : goal.factor-returns-then-used-ge-MOST_STATES
factor-returns-then-used-ge-MOST_STATES t c =
    let name = event_at c.requires.looks c.in-Event.is in
    λ n h. many_fault c.args.depth c.args.used name c.if-used-ge-MOST_STATES.true n

pub factor-bounds-tables-from : goal.factor-bounds-tables-from
factor-bounds-tables-from t c =
    omega (arith, letter_below (event_at c.requires.looks c.in-Event.is))

pub factor-bounds-tables-from-in-Event : goal.factor-bounds-tables-from-in-Event
factor-bounds-tables-from-in-Event t c =
    omega (arith, letter_below (event_at c.requires.looks c.in-Event.is))

pub factor-peek-requires : goal.factor-peek-requires
factor-peek-requires t c = (token_ahead (event_at c.requires.looks c.in-Event.is)).within

pub factor-peek-requires-in-One : goal.factor-peek-requires-in-One
factor-peek-requires-in-One t c = (token_ahead (one_at c.requires.looks c.in-One.is)).within

pub factor-peek-requires-in-Zero : goal.factor-peek-requires-in-Zero
factor-peek-requires-in-Zero t c = (token_ahead (zero_at c.requires.looks c.in-Zero.is)).within

pub factor-returns-then-depth-ge-MOST_OPEN : goal.factor-returns-then-depth-ge-MOST_OPEN
factor-returns-then-depth-ge-MOST_OPEN t c =
    let opens = open_at c.requires.looks c.in-Open.is in
    λ n h. deep_fault c.args.depth c.args.used opens c.if-depth-ge-MOST_OPEN.true n

pub factor-alternation-requires : goal.factor-alternation-requires
factor-alternation-requires t c =
    let ahead = token_ahead (open_at c.requires.looks c.in-Open.is) in
    (omega arith, record { inside = ahead.within; room = c.requires.asks.room; shallow = omega arith })

pub factor-returns-in_err-inner-in-Open : goal.factor-returns-in_err-inner-in-Open
factor-returns-in_err-inner-in-Open t c =
    let opens = open_at c.requires.looks c.in-Open.is in
    let p = err_from_is_err_and c.from_residual.result c.from_residual.ensures.1 in
    rw (p.1, p.2) (λ n h. inner_fault c.args.depth c.args.used opens c.if-depth-ge-MOST_OPEN.false c.in_err-inner-in-Open.ensures n)

pub factor-returns-then-ne : goal.factor-returns-then-ne
factor-returns-then-ne t c =
    let opens = open_at c.requires.looks c.in-Open.is in
    let open_still : c.in_ok-inner-in-Open.inner.next.token ≡ Close → ⊥ = search rules in
    λ n h. close_fault c.args.depth c.args.used opens c.if-depth-ge-MOST_OPEN.false c.in_ok-inner-in-Open.ensures open_still n

pub factor-peek-requires-in-Open : goal.factor-peek-requires-in-Open
factor-peek-requires-in-Open t c =
    let closes : c.in_ok-inner-in-Open.inner.next.token ≡ Close = search rules in
    (token_ahead (close_at c.in_ok-inner-in-Open.ensures.looks closes)).within

pub factor-returns-in_default : goal.factor-returns-in_default
factor-returns-in_default t c =
    let d = c.in_default in
    λ n h. none_fault c.args.depth c.args.used c.requires.looks (not_begins c.args.next.token d.not-Event d.not-One d.not-Zero d.not-Open) n h

pub factor-returns : goal.factor-returns
factor-returns t c =
    c.marks.ensures.onward c.args.next.place c.args.depth c.args.used c.args.tables.now
    (elim c.match-next.branch [
      | factor-in-Event+else-used-ge-MOST_STATES w ↦
          let name = event_at c.requires.looks w.in-Event.is in
          let shift = one_shl c.args.used 64 w.if-used-ge-MOST_STATES.false in
          let names : length c.args.tables.now.named ≡ 32 = search rules in
          rw (w.tables-is, w.x-is, w.from.ensures)
          (core_gap (core_letter name (letter_below name) w.if-used-ge-MOST_STATES.false names shift) w.peek.ensures.gaps)
      | factor-in-One w ↦
          rw (w.tables-is, w.x-is) (core_gap (core_unit (one_at c.requires.looks w.in-One.is) c.requires.asks.room) w.peek-in-One.ensures.gaps)
      | factor-in-Zero w ↦
          rw (w.tables-is, w.x-is)
          (core_gap (core_void (zero_at c.requires.looks w.in-Zero.is) c.requires.asks.room) w.peek-in-Zero.ensures.gaps)
      | factor-in-Open+else-depth-ge-MOST_OPEN+in_ok-inner-in-Open+else-ne w ↦
          let opens = open_at c.requires.looks w.in-Open.is in
          let inner = w.in_ok-inner-in-Open.ensures in
          let closes : w.in_ok-inner-in-Open.inner.next.token ≡ Close = search rules in
          rw (w.tables-is, w.x-is)
          (core_gap (core_group opens w.if-depth-ge-MOST_OPEN.false inner (close_at inner.looks closes)) w.peek-in-Open.ensures.gaps)
    ])

-- ---- factors, one after the other

pub sequence-factor-requires : goal.sequence-factor-requires
sequence-factor-requires t c =
    let looks = c.peek-next.ensures.looks in
    (omega (arith, peek_le c.peek-next.ensures), (record { inside = looks.inside; room = c.requires.room; shallow = c.requires.shallow }, looks))

pub sequence-returns-in_err-x : goal.sequence-returns-in_err-x
sequence-returns-in_err-x t c =
    let p = err_from_is_err_and c.from_residual.result c.from_residual.ensures.1 in
    rw (p.1, p.2) (head_fault c.args.depth c.args.used c.peek-next.ensures.gaps (c.in_err-x.ensures true (inl refl)))

pub sequence-loop-tables-init : goal.sequence-loop-tables-init
sequence-loop-tables-init t c = seq_first c.peek-next.ensures.gaps c.in_ok-x.ensures

pub sequence-factor-requires-in-loop-tables : goal.sequence-factor-requires-in-loop-tables
sequence-factor-requires-in-loop-tables t c =
    let b = c.loop-tables.invariant in
    (omega (arith, begun_later b), (record { inside = b.looks.inside; room = b.core.room; shallow = c.requires.shallow }, b.looks))

pub sequence-returns-in_err-y : goal.sequence-returns-in_err-y
sequence-returns-in_err-y t c =
    let p = err_from_is_err_and c.from_residual-in_err-y.result c.from_residual-in_err-y.ensures.1 in
    rw (p.1, p.2) (seq_fault c.loop-tables.invariant (c.in_err-y.ensures false (inr (sym c.loop-tables-test.ensures))))

pub sequence-loop-tables-smaller : goal.sequence-loop-tables-smaller
sequence-loop-tables-smaller t c =
    let y = c.in_ok-y.ensures in
    omega (arith, made_more y, y.looks.inside, ap (λ (k : Look). k.place) c.chained-x.ensures.next)

pub sequence-loop-tables-preserved : goal.sequence-loop-tables-preserved
sequence-loop-tables-preserved t c =
    seq_step c.loop-tables.invariant c.in_ok-y.y c.chained-x.result c.in_ok-y.ensures c.link.ensures c.chained-x.ensures
