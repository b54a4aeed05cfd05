use Rattle.std.proofs.Common.{◌≡◌, ◌+◌, ◌-◌, take, drop, length, sym, ap, ◌∙◌, arith}
use Rattle.fancy_index.proofs.Words.{count, max_bytes, LieWithin-view, strides_along}
use Rattle.fancy_index.proofs.AlongLaws.{axes-within, axes-made, length-along, along-shows}
use Rattle.fancy_index.proofs.along_axes.along.Goals as goal
use Rattle.fancy_index.proofs.along_axes.along.Goals.{In_ok-strides}

pub from_lengths-requires : goal.from_lengths-requires
from_lengths-requires c =
    let shape = c.as_slice-lengths.ensures in
    axes-made c.args.layout.now c.args.axis c.args.start c.args.axes.now c.requires shape.rank shape.lengths shape.items

pub offset_bounds-strides-axis : goal.offset_bounds-strides-axis
offset_bounds-strides-axis c = record { fits = omega (arith, axes-within c.args.layout.now c.args.axis c.args.start c.args.axes.now c.requires, c.as_slice-lengths.ensures.rank, c.args.layout.now.one_stride_an_axis) }

pub slice_bounds-from_slice-end : goal.slice_bounds-from_slice-end
slice_bounds-from_slice-end c = omega (arith, axes-within c.args.layout.now c.args.axis c.args.start c.args.axes.now c.requires, ap length c.as_slice-strides.ensures)

strides-is : (c : In_ok-strides) → c.in_ok-strides.strides ≡ strides_along c.args.layout.now c.args.axis c.args.axes.now
strides-is c =
    let n = length c.args.axes.now in
    let many : c.args.axis + n - c.args.axis ≡ n = omega arith in
    c.in_ok-strides.ensures ∙ ap (λ k. take k (drop c.args.axis c.as_slice-strides.result.now)) many ∙ ap (λ s. take n (drop c.args.axis s)) c.as_slice-strides.ensures

pub invariant_of-result : goal.invariant_of-result
invariant_of-result c =
    let now = (goal.at.invariant_of-result c).In_ok-strides in
    let layout = c.args.layout.now in
    record {
      one_stride_an_axis = ap length (strides-is now) ∙ length-along layout c.args.axis c.args.start c.args.axes.now c.requires ∙ sym (ap length c.in_ok-shape.ensures);
      within_limit = rw (c.in_ok-shape.ensures, strides-is now) (LieWithin-view layout _ _ c.args.start _ max_bytes 1 (along-shows layout c.args.axis c.args.start c.args.axes.now c.requires) layout.within_limit);
      zero_if_empty = λ none. absurd (omega (arith, none, ap count c.in_ok-shape.ensures, c.requires.some));
    }

pub returns-clause-strides : goal.returns-clause-strides
returns-clause-strides c = strides-is (goal.at.returns-clause-strides c).In_ok-strides
