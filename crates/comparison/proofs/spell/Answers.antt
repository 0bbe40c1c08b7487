-- `comparison::spell` writes the path of a record and one letter more.
use Rattle.std.proofs.Common.{refl, ap, ◌∙◌, ◌<◌, length, length-set, rules, arith}
use Rattle.walk.specs.Columns.{Columns}
use Rattle.comparison.proofs.Spelling.{short_of, shown_at, climbing_first, climbing_step, climbing_below, climbing_done, at_positive, writing_first, writing_below, writing_step, writing_done}
use Rattle.comparison.proofs.spell.Goals as goal

pub loop-i-init : goal.loop-i-init
loop-i-init c = climbing_first c.requires.path

pub bounds-tables-i : goal.bounds-tables-i
bounds-tables-i c = short_of c.args.kept c.args.tables.now.parents.now (climbing_below c.loop-i.invariant c.loop-i-test.true)

pub loop-i-preserved : goal.loop-i-preserved
loop-i-preserved c =
    climbing_step c.loop-i.invariant c.loop-i-test.true
    (c.from-i.ensures ∙ shown_at c.args.kept c.args.tables.now.parents.now (climbing_below c.loop-i.invariant c.loop-i-test.true))

pub loop-j-init : goal.loop-j-init
loop-j-init c =
    let below : c.loop-i.count < length c.args.tables.now.sequence.now = omega (arith, c.loop-i.invariant.total _ c.requires.path, c.requires.fits) in
    record {
      writing = writing_first c.requires.path (climbing_done c.loop-i.invariant c.loop-i-test.false _ c.requires.path) refl (simp length-set below);
      columns_kept = refl;
      same_tables = record { lefts = refl; rights = refl; parents = refl; taken = refl; sequence = refl };
    }

pub overflow_sub-at : goal.overflow_sub-at
overflow_sub-at c = at_positive c.loop-j.invariant.writing c.loop-j-test.true

pub bounds-tables-j : goal.bounds-tables-j
bounds-tables-j c =
    let same = ap (λ (d : Columns). d.taken) c.loop-j.invariant.columns_kept in
    let below = writing_below c.loop-j.invariant.writing c.loop-j-test.true in
    rw same (short_of c.args.kept c.args.tables.now.taken.now (rw c.requires.alike at below))

pub bounds-tables-j-in-loop-j : goal.bounds-tables-j-in-loop-j
bounds-tables-j-in-loop-j c =
    let same = ap (λ (d : Columns). d.parents) c.loop-j.invariant.columns_kept in
    rw same (short_of c.args.kept c.args.tables.now.parents.now (writing_below c.loop-j.invariant.writing c.loop-j-test.true))

pub offset_bounds-tables-j : goal.offset_bounds-tables-j
offset_bounds-tables-j c =
    let same = ap (λ (d : Columns). d.parents) c.loop-j.invariant.columns_kept in
    let below = short_of c.args.kept c.args.tables.now.parents.now (writing_below c.loop-j.invariant.writing c.loop-j-test.true) in
    search (below, rules)

pub loop-j-smaller : goal.loop-j-smaller
loop-j-smaller c = omega (arith, at_positive c.loop-j.invariant.writing c.loop-j-test.true)

pub loop-j-preserved : goal.loop-j-preserved
loop-j-preserved c =
    let w = c.loop-j.invariant.writing in
    let below = writing_below w c.loop-j-test.true in
    let parents = ap (λ (d : Columns). d.parents) c.loop-j.invariant.columns_kept in
    let taken = ap (λ (d : Columns). d.taken) c.loop-j.invariant.columns_kept in
    let letter = shown_at c.args.kept c.args.tables.now.taken.now (rw c.requires.alike at below) in
    let up = shown_at c.args.kept c.args.tables.now.parents.now below in
    record {
      writing = writing_step w c.loop-j-test.true refl (rw (taken, letter) refl) (c.from-j.ensures ∙ rw (parents, up) refl);
      columns_kept = c.loop-j.invariant.columns_kept;
      same_tables =
          let same = c.loop-j.invariant.same_tables in
          record { lefts = same.lefts; rights = same.rights; parents = same.parents; taken = same.taken; sequence = same.sequence };
    }

pub returns : goal.returns
returns c = record {
  spelt = writing_done c.loop-j.invariant.writing c.loop-j-test.false refl;
  columns_kept = c.loop-j.invariant.columns_kept;
  same_tables = c.loop-j.invariant.same_tables;
}
