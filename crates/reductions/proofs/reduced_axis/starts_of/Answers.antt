use Rattle.std.proofs.Common.{◌≡◌, sym, ap, subst, ◌∙◌}
use Rattle.reductions.proofs.Words.{remove, IsShape}
use Rattle.reductions.proofs.AxisLaws.{IsShape-remove, layout_without}
use Rattle.reductions.proofs.reduced_axis.starts_of.Goals as goal
use Rattle.reductions.proofs.reduced_axis.starts_of.Goals.{In_ok-shape}

pub from_lengths-requires : goal.from_lengths-requires
from_lengths-requires c =
    let l = c.as_slice.ensures in
    subst IsShape (sym (c.as_slice-2.ensures ∙ c.in_ok-lengths.ensures ∙ ap (λ lengths. remove lengths c.args.axis) l.value))
    (IsShape-remove c.args.layout.now.shape c.args.axis c.requires.axis c.requires.some (record { axes = l.rank; lengths = l.lengths; items = l.items }))

shape-is : (c : In_ok-shape) → c.in_ok-shape.shape ≡ remove c.args.layout.now.shape c.args.axis
shape-is c = c.in_ok-shape.ensures ∙ c.as_slice-2.ensures ∙ c.in_ok-lengths.ensures ∙ ap (λ lengths. remove lengths c.args.axis) c.as_slice.ensures.value

pub invariant_of-result : goal.invariant_of-result
invariant_of-result c =
    let l = c.args.layout.now in
    let axis = c.args.axis in
    let parts = layout_without l axis c.in_ok-shape.shape c.in_ok-strides.strides c.requires.axis c.requires.some (shape-is (goal.at.invariant_of-result c).In_ok-shape) (c.in_ok-strides.ensures ∙ c.as_slice-4.ensures ∙ c.in_ok-steps.ensures ∙ ap (λ strides. remove strides axis) c.as_slice-3.ensures) in
    record { one_stride_an_axis = parts.0; within_limit = parts.1; zero_if_empty = parts.2 }
