-- `comparison::deal` deals with one candidate: it moves, or it ends the walk.
use Rattle.std.proofs.Common.{refl, sym, ◌∙◌, arith}
use Rattle.verdict.proofs.Flags.{flags_agree, flags_differ}
use Rattle.comparison.proofs.Dealing.{proposable_listed, facing_listed, decided_listed, same_here, letter_small, parent_small, spellable, deal_skipped, deal_full, deal_first, deal_spelt, deal_kept}
use Rattle.comparison.proofs.deal.Goals as goal

pub propose-next-requires : goal.propose-next-requires
propose-next-requires c = proposable_listed c.listed-listed.ensures c.requires

pub overflow_cast-letter : goal.overflow_cast-letter
overflow_cast-letter c = omega (arith, letter_small (facing_listed c.listed-listed.ensures c.requires c.propose-next.ensures))

pub returns-then-congruent : goal.returns-then-congruent
returns-then-congruent c = record {
  dealt_with =
      deal_skipped (facing_listed c.listed-listed.ensures c.requires c.propose-next.ensures)
      ((decided_listed c.listed-listed.ensures c.congruent.ensures).sound c.if-congruent.true);
  same_tables = same_here;
}

pub returns-then-examined-eq0 : goal.returns-then-examined-eq0
returns-then-examined-eq0 c = record {
  dealt_with =
      deal_first (facing_listed c.listed-listed.ensures c.requires c.propose-next.ensures)
      ((decided_listed c.listed-listed.ensures c.congruent.ensures).complete c.if-congruent.false)
      (λ e. flags_differ _ _ c.if-a-b.true (c.meets-a.ensures ∙ e ∙ sym c.meets-b.ensures)) c.if-examined-eq0.true;
  same_tables = same_here;
}

pub spell-length-requires : goal.spell-length-requires
spell-length-requires c = spellable (facing_listed c.listed-listed.ensures c.requires c.propose-next.ensures) c.if-examined-eq0.false

pub returns-then-a-b : goal.returns-then-a-b
returns-then-a-b c = record {
  dealt_with =
      deal_spelt (facing_listed c.listed-listed.ensures c.requires c.propose-next.ensures)
      ((decided_listed c.listed-listed.ensures c.congruent.ensures).complete c.if-congruent.false)
      (λ e. flags_differ _ _ c.if-a-b.true (c.meets-a.ensures ∙ e ∙ sym c.meets-b.ensures)) c.if-examined-eq0.false c.spell-length.ensures;
  same_tables = c.spell-length.ensures.same_tables;
}

pub returns-then-kept-room : goal.returns-then-kept-room
returns-then-kept-room c = record {
  dealt_with =
      deal_full (facing_listed c.listed-listed.ensures c.requires c.propose-next.ensures)
      ((decided_listed c.listed-listed.ensures c.congruent.ensures).complete c.if-congruent.false)
      (sym c.meets-a.ensures ∙ flags_agree _ _ c.if-a-b.false ∙ c.meets-b.ensures) c.if-kept-room.true;
  same_tables = same_here;
}

pub overflow_cast-tables : goal.overflow_cast-tables
overflow_cast-tables c = omega (arith, parent_small (facing_listed c.listed-listed.ensures c.requires c.propose-next.ensures))

pub overflow_cast-tables-2 : goal.overflow_cast-tables-2
overflow_cast-tables-2 c = omega (arith, letter_small (facing_listed c.listed-listed.ensures c.requires c.propose-next.ensures))

pub returns : goal.returns
returns c = record {
  dealt_with =
      deal_kept (facing_listed c.listed-listed.ensures c.requires c.propose-next.ensures)
      ((decided_listed c.listed-listed.ensures c.congruent.ensures).complete c.if-congruent.false)
      (sym c.meets-a.ensures ∙ flags_agree _ _ c.if-a-b.false ∙ c.meets-b.ensures) c.if-kept-room.false;
  same_tables = record { lefts = refl; rights = refl; parents = refl; taken = refl; sequence = refl };
}
