use Rattle.std.proofs.Common.{◌<◌, ◌∙◌, ap, sym, arith, length}
use Rattle.view_ops.proofs.Words.{err_from_is_err_and, count}
use Rattle.view_ops.proofs.PickViews.{shape_of_picks, IsIndex-firsts, small-layout, length-strides, picked_as, picked_empty, picked-lies, picked-is, picked-nested}
use Rattle.view_ops.proofs.BasicLaws.{made-shape, gives_picks, gives_no_shape}
use Rattle.view_ops.proofs.picks.with_picks.Goals as goal

pub returns-in_err-shape-clause-view : goal.returns-in_err-shape-clause-view
returns-in_err-shape-clause-view c =
    let p = err_from_is_err_and c.from_residual.result c.from_residual.ensures.1 in
    rw (p.1, p.2) (gives_no_shape c.args.layout.now c.args.picks.now c.in_err-shape.field-0.0 c.in_err-shape.ensures)

pub returns-then-items-eq0-clause-view : goal.returns-then-items-eq0-clause-view
returns-then-items-eq0-clause-view c =
    gives_picks c.args.layout.now c.in_ok-c_order.field-0 c.args.picks.now c.in_ok-shape.shape c.in_ok-shape.ensures (picked-is c.args.layout.now c.in_ok-c_order.field-0 c.args.picks.now (picked_empty c.args.layout.now c.in_ok-c_order.field-0 c.in_ok-shape.shape c.args.picks.now c.requires c.in_ok-c_order.ensures.shape (made-shape c.args.picks.now c.in_ok-shape.shape c.in_ok-shape.ensures) (sym c.items.ensures.value ∙ c.if-items-eq0.true)))

pub at-offset-requires : goal.at-offset-requires
at-offset-requires c =
    let some : 0 < count (shape_of_picks c.args.picks.now) = omega (arith, ap count (made-shape c.args.picks.now c.in_ok-shape.shape c.in_ok-shape.ensures), c.items.ensures.value, c.if-items-eq0.false) in
    rw (c.as_slice.ensures, c.in_ok-first.ensures) (IsIndex-firsts c.args.layout.now.shape c.args.picks.now c.requires some)

pub picked_strides-requires-clause-small : goal.picked_strides-requires-clause-small
picked_strides-requires-clause-small c =
    let some : 0 < count (shape_of_picks c.args.picks.now) = omega (arith, ap count (made-shape c.args.picks.now c.in_ok-shape.shape c.in_ok-shape.ensures), c.items.ensures.value, c.if-items-eq0.false) in
    rw c.as_slice-2.ensures (small-layout c.args.layout.now c.args.picks.now c.as_slice-lengths.ensures.lengths c.requires some)

pub invariant_of-result : goal.invariant_of-result
invariant_of-result c = record {
  one_stride_an_axis = ap length c.in_ok-strides.ensures ∙ length-strides c.as_slice-2.result.now c.args.layout.now.shape c.args.picks.now (ap length c.as_slice-2.ensures ∙ c.args.layout.now.one_stride_an_axis) c.requires ∙ sym (ap length (made-shape c.args.picks.now c.in_ok-shape.shape c.in_ok-shape.ensures));
  within_limit = picked-lies c.args.layout.now c.in_ok-shape.shape c.in_ok-strides.strides c.at-offset.result c.args.picks.now (picked_as c.args.layout.now c.in_ok-shape.shape c.in_ok-strides.strides c.at-offset.result c.args.picks.now c.as_slice.result.now c.as_slice-2.result.now c.requires (made-shape c.args.picks.now c.in_ok-shape.shape c.in_ok-shape.ensures) c.at-offset.ensures.address (c.as_slice.ensures ∙ c.in_ok-first.ensures) c.in_ok-strides.ensures c.as_slice-2.ensures);
  zero_if_empty = λ none. absurd (c.if-items-eq0.false (c.items.ensures.value ∙ none));
}

pub returns-clause-view : goal.returns-clause-view
returns-clause-view c =
    gives_picks c.args.layout.now _ c.args.picks.now c.in_ok-shape.shape c.in_ok-shape.ensures (picked-is c.args.layout.now _ c.args.picks.now (picked_as c.args.layout.now c.in_ok-shape.shape c.in_ok-strides.strides c.at-offset.result c.args.picks.now c.as_slice.result.now c.as_slice-2.result.now c.requires (made-shape c.args.picks.now c.in_ok-shape.shape c.in_ok-shape.ensures) c.at-offset.ensures.address (c.as_slice.ensures ∙ c.in_ok-first.ensures) c.in_ok-strides.ensures c.as_slice-2.ensures))

pub returns-clause-nested : goal.returns-clause-nested
returns-clause-nested c = picked-nested c.args.layout.now _ c.args.picks.now (picked_as c.args.layout.now c.in_ok-shape.shape c.in_ok-strides.strides c.at-offset.result c.args.picks.now c.as_slice.result.now c.as_slice-2.result.now c.requires (made-shape c.args.picks.now c.in_ok-shape.shape c.in_ok-shape.ensures) c.at-offset.ensures.address (c.as_slice.ensures ∙ c.in_ok-first.ensures) c.in_ok-strides.ensures c.as_slice-2.ensures)
