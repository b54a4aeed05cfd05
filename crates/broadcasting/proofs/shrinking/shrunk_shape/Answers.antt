use Rattle.std.proofs.Common.{rules, sym, subst, ap, ◌∙◌, arith, length-append, length}
use Rattle.broadcasting.proofs.Words.{IsShape}
use Rattle.broadcasting.proofs.ShrinkLaws.{one-more, all_shrunk, IsShape-shrunk}
use Rattle.broadcasting.proofs.shrinking.shrunk_shape.Goals as goal

pub shrunk_length-requires-clause-stride : goal.shrunk_length-requires-clause-stride
shrunk_length-requires-clause-stride c = omega (arith, ap length c.as_slice-lengths.ensures.value, ap length c.as_slice-strides.ensures, c.args.first.now.one_stride_an_axis)

pub shrunk_length-requires-clause-other : goal.shrunk_length-requires-clause-other
shrunk_length-requires-clause-other c = omega (arith, ap length c.as_slice-lengths.ensures.value, ap length c.as_slice-others.ensures, c.args.second.now.one_stride_an_axis, ap length c.requires.even)

pub loop-axis-preserved : goal.loop-axis-preserved
loop-axis-preserved c =
    let small = c.loop-axis.shrunk.items in
    let so_far = c.loop-axis.invariant in
    record {
      axes = omega (arith, so_far.axes, simp length-append at (ap length c.in_ok-push.ensures.ok));
      first = one-more c.as_slice-lengths.result.now c.as_slice-strides.result.now small c.push.new.self.items c.loop-axis.axis c.shrunk_length.result so_far.axes c.in_ok-push.ensures.ok c.shrunk_length.ensures.first so_far.first;
      second = one-more c.as_slice-lengths.result.now c.as_slice-others.result.now small c.push.new.self.items c.loop-axis.axis c.shrunk_length.result so_far.axes c.in_ok-push.ensures.ok c.shrunk_length.ensures.second so_far.second;
    }

pub from_lengths-requires : goal.from_lengths-requires
from_lengths-requires c =
    let l = c.as_slice-lengths.ensures in
    let old = c.args.first.now in
    let can = all_shrunk c.as_slice-lengths.result.now old.shape c.loop-axis.shrunk.items c.as_slice-strides.result.now old.strides c.loop-axis.axis (omega arith) l.value c.as_slice-strides.ensures c.loop-axis.invariant.axes c.loop-axis.invariant.first in
    subst IsShape (sym c.as_slice.ensures) (IsShape-shrunk old.shape c.loop-axis.shrunk.items old.strides old.one_stride_an_axis can (record { axes = l.rank; lengths = l.lengths; items = l.items }))

pub returns-clause-first : goal.returns-clause-first
returns-clause-first c =
    let old = c.args.first.now in
    let can = all_shrunk c.as_slice-lengths.result.now old.shape c.loop-axis.shrunk.items c.as_slice-strides.result.now old.strides c.loop-axis.axis (omega arith) c.as_slice-lengths.ensures.value c.as_slice-strides.ensures c.loop-axis.invariant.axes c.loop-axis.invariant.first in
    search (rules, can)

pub returns-clause-second : goal.returns-clause-second
returns-clause-second c =
    let old = c.args.second.now in
    let can = all_shrunk c.as_slice-lengths.result.now old.shape c.loop-axis.shrunk.items c.as_slice-others.result.now old.strides c.loop-axis.axis (omega arith) (c.as_slice-lengths.ensures.value ∙ sym c.requires.even) c.as_slice-others.ensures c.loop-axis.invariant.axes c.loop-axis.invariant.second in
    search (rules, can)
