use Rattle.std.proofs.Common.{◌≤◌, length, sym, ◌∙◌, arith}
use Rattle.fancy_index.proofs.Words.{array_axes_taken, index_items}
use Rattle.fancy_index.proofs.IndexedLaws.{refused-kind, refused-many, refused-lengths, refused-step, same_steps}
use Rattle.fancy_index.proofs.checks.check.Goals as goal
use Rattle.fancy_index.proofs.checks.check.Goals.{In-Some}

pub returns-then-not-are_indexes-clause-err : goal.returns-then-not-are_indexes-clause-err
returns-then-not-are_indexes-clause-err c = refused-kind _ _ (sym c.if-not-are_indexes.ensures)

pub returns-in_default-clause-err : goal.returns-in_default-clause-err
returns-in_default-clause-err c = refused-many _ _ (sym c.if-not-are_indexes.ensures) (c.axes_beside.ensures.none c.in_default.is)

enough : (c : In-Some) → array_axes_taken (index_items c.args.items.now) ≤ length c.args.axes.now
enough c = omega (arith, c.in-Some.ensures.some)

pub returns-then-not-cover-clause-err : goal.returns-then-not-cover-clause-err
returns-then-not-cover-clause-err c = refused-lengths _ _ (sym c.if-not-are_indexes.ensures) (enough (goal.at.returns-then-not-cover-clause-err c).In-Some) (sym c.if-not-cover.ensures)

pub returns-then-not-have_steps-clause-err : goal.returns-then-not-have_steps-clause-err
returns-then-not-have_steps-clause-err c =
    let steps = same_steps c.args.items.now in
    refused-step _ _ (sym c.if-not-are_indexes.ensures) (enough (goal.at.returns-then-not-have_steps-clause-err c).In-Some) (sym c.if-not-cover.ensures) (steps ∙ sym c.if-not-have_steps.ensures)

pub returns-clause-ok : goal.returns-clause-ok
returns-clause-ok c = record {
  index = sym c.if-not-are_indexes.ensures;
  enough = enough (goal.at.returns-clause-ok c).In-Some;
  covers = sym c.if-not-cover.ensures;
  steps = same_steps c.args.items.now ∙ sym c.if-not-have_steps.ensures;
}
