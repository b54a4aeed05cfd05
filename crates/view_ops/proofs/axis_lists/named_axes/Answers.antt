use Rattle.std.proofs.Common.{inr, sym, ap, ◌∙◌, arith}
use Rattle.view_ops.proofs.Words.{are_distinct}
use Rattle.view_ops.proofs.AxesLaws.{axes_of-count, axes_of-range, axes_of-repeated, axes_of-ok, all_taken}
use Rattle.view_ops.proofs.axis_lists.named_axes.Goals as goal

pub returns-then-named-rank : goal.returns-then-named-rank
returns-then-named-rank c = inr (axes_of-count c.args.rank c.args.named.now (omega arith))

pub returns-then-not-are_in_range : goal.returns-then-not-are_in_range
returns-then-not-are_in_range c = inr (axes_of-range c.args.rank c.args.named.now (omega arith) (sym c.if-not-are_in_range.ensures))

pub returns-then-not-are_distinct : goal.returns-then-not-are_distinct
returns-then-not-are_distinct c =
    inr (axes_of-repeated c.args.rank c.args.named.now (omega arith) (sym c.if-not-are_in_range.ensures) (ap are_distinct (sym (all_taken _ c.args.named.now c.loop-axis.axis-index _ c.loop-axis-test.false c.loop-axis.invariant)) ∙ ap are_distinct (sym c.as_slice.ensures) ∙ sym c.if-not-are_distinct.ensures))

pub returns : goal.returns
returns c =
    axes_of-ok c.args.rank c.args.named.now c.loop-axis.axes.items (omega arith) (sym c.if-not-are_in_range.ensures) (all_taken _ c.args.named.now c.loop-axis.axis-index _ c.loop-axis-test.false c.loop-axis.invariant) (ap are_distinct (sym c.as_slice.ensures) ∙ sym c.if-not-are_distinct.ensures)
