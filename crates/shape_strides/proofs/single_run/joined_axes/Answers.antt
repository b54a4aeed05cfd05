use Rattle.std.proofs.Common.{◌≡◌, length, sym, ap, ◌∙◌, arith}
use Rattle.shape_strides.proofs.Words.{count}
use Rattle.shape_strides.proofs.StartLaws.{stands_before_axis, put-range}
use Rattle.shape_strides.proofs.single_run.joined_axes.Goals as goal

pub put_outside-requires-clause-some : goal.put_outside-requires-clause-some
put_outside-requires-clause-some c =
    let strides = c.as_slice-strides.result.now in
    let lengths = c.as_slice-lengths.result.now in
    let same : length strides ≡ length lengths = ap length c.as_slice-strides.ensures ∙ c.args.layout.now.one_stride_an_axis ∙ sym (ap length c.as_slice-lengths.ensures.value) in
    let stands = stands_before_axis strides lengths c.loop-axis.axis c.loop-axis.axes.items same c.loop-axis-test.true c.loop-axis.auto.axis c.loop-axis.invariant in
    let items = ap count c.as_slice-lengths.ensures.value in
    (put-range strides lengths _ c.loop-axis.axes.items stands (omega (arith, items, c.requires)) (omega (arith, items, c.as_slice-lengths.ensures.items))).0

pub put_outside-requires-clause-items : goal.put_outside-requires-clause-items
put_outside-requires-clause-items c =
    let strides = c.as_slice-strides.result.now in
    let lengths = c.as_slice-lengths.result.now in
    let same : length strides ≡ length lengths = ap length c.as_slice-strides.ensures ∙ c.args.layout.now.one_stride_an_axis ∙ sym (ap length c.as_slice-lengths.ensures.value) in
    let stands = stands_before_axis strides lengths c.loop-axis.axis c.loop-axis.axes.items same c.loop-axis-test.true c.loop-axis.auto.axis c.loop-axis.invariant in
    let items = ap count c.as_slice-lengths.ensures.value in
    (put-range strides lengths _ c.loop-axis.axes.items stands (omega (arith, items, c.requires)) (omega (arith, items, c.as_slice-lengths.ensures.items))).1
