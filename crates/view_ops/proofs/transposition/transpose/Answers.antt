use Rattle.std.proofs.Common.{◌≡◌, ℕ, ℤ, ◌++◌, ◌∷◌, [], pos, get_or, refl, sym, ap, subst, ◌∙◌, arith, rules, length, Ok, option_copied}
use Rattle.view_ops.proofs.Words.{err_from_is_err_and, IsShape, transposed_shape, AreAllAxes}
use Rattle.std.proofs.lemmas.List.{map_more}
use Rattle.view_ops.proofs.AxesLaws.{all_axes, axis-lt, all_taken}
use Rattle.view_ops.proofs.TransposeViews.{IsShape-transposed, turned_as, turned-length, turned-lies, turned-zeros, turned-is, turned-nested, gives_transposed, gives_no_axes}
use Rattle.view_ops.proofs.transposition.transpose.Goals as goal
use Rattle.view_ops.proofs.transposition.transpose.Goals.{After-as_slice-axes}

pub returns-in_err-named-clause-view : goal.returns-in_err-named-clause-view
returns-in_err-named-clause-view c =
    let p = err_from_is_err_and c.from_residual.result c.from_residual.ensures.1 in
    rw (p.1, p.2) (gives_no_axes c.args.layout.now (option_copied c.args.axes) c.in_err-named.field-0.0 (rw (← c.rank.ensures.value) c.in_err-named.ensures))

all : (c : After-as_slice-axes) → AreAllAxes (length c.args.layout.now.shape) c.as_slice-axes.result.now
all c = rw (← c.rank.ensures.value, c.as_slice-axes.ensures) (all_axes c.rank.result (option_copied c.args.axes) c.in_ok-named.named.items c.in_ok-named.ensures)

pub offset_bounds-old_lengths-axis : goal.offset_bounds-old_lengths-axis
offset_bounds-old_lengths-axis c =
    let low = axis-lt _ c.as_slice-axes.result.now c.loop-axis.axis-index (all (goal.at.offset_bounds-old_lengths-axis c).After-as_slice-axes).are c.loop-axis-test.true in
    record { fits = omega (arith, c.as_slice-old_lengths.ensures.rank) }

pub bounds-old_lengths-axis : goal.bounds-old_lengths-axis
bounds-old_lengths-axis c =
    let low = axis-lt _ c.as_slice-axes.result.now c.loop-axis.axis-index (all (goal.at.bounds-old_lengths-axis c).After-as_slice-axes).are c.loop-axis-test.true in
    omega (arith, ap length c.as_slice-old_lengths.ensures.value)

pub offset_bounds-old_strides-axis : goal.offset_bounds-old_strides-axis
offset_bounds-old_strides-axis c =
    let low = axis-lt _ c.as_slice-axes.result.now c.loop-axis.axis-index (all (goal.at.offset_bounds-old_strides-axis c).After-as_slice-axes).are c.loop-axis-test.true in
    record { fits = omega (arith, c.as_slice-old_lengths.ensures.rank) }

pub bounds-old_strides-axis : goal.bounds-old_strides-axis
bounds-old_strides-axis c =
    let low = axis-lt _ c.as_slice-axes.result.now c.loop-axis.axis-index (all (goal.at.bounds-old_strides-axis c).After-as_slice-axes).are c.loop-axis-test.true in
    omega (arith, ap length c.as_slice-old_strides.ensures, c.args.layout.now.one_stride_an_axis)

pub loop-axis-preserved : goal.loop-axis-preserved
loop-axis-preserved c =
    let k = c.loop-axis.axis-index in
    let axis = get_or c.as_slice-axes.result.now k 0 in
    let length : ℕ = get_or c.as_slice-old_lengths.result.now axis 0 in
    let stride : ℤ = get_or c.as_slice-old_strides.result.now axis (pos 0) in
    let pushed : c.push-in-loop-axis.new.self ≡ c.loop-axis.strides ++ stride ∷ [] = search rules in
    record {
      lengths = c.in_ok-push.ensures.ok ∙ ap (λ l. l ++ length ∷ []) c.loop-axis.invariant.lengths ∙ sym (map_more (λ axis. get_or c.as_slice-old_lengths.result.now axis 0) c.as_slice-axes.result.now k 0 c.loop-axis-test.true);
      strides = pushed ∙ ap (λ l. l ++ stride ∷ []) c.loop-axis.invariant.strides ∙ sym (map_more (λ axis. get_or c.as_slice-old_strides.result.now axis (pos 0)) c.as_slice-axes.result.now k 0 c.loop-axis-test.true);
    }

pub from_lengths-requires : goal.from_lengths-requires
from_lengths-requires c =
    let l = c.as_slice-old_lengths.ensures in
    let made = all_taken _ c.as_slice-axes.result.now c.loop-axis.axis-index _ c.loop-axis-test.false c.loop-axis.invariant.lengths in
    subst IsShape (sym (c.as_slice.ensures ∙ made ∙ ap (transposed_shape c.as_slice-axes.result.now) l.value))
    (IsShape-transposed c.as_slice-axes.result.now c.args.layout.now.shape (all (goal.at.from_lengths-requires c).After-as_slice-axes) (record { axes = l.rank; lengths = l.lengths; items = l.items }))

pub invariant_of-result : goal.invariant_of-result
invariant_of-result c =
    let turned = (turned_as c.as_slice.ensures (all_taken _ c.as_slice-axes.result.now c.loop-axis.axis-index _ c.loop-axis-test.false c.loop-axis.invariant.lengths) c.as_slice-old_lengths.ensures.value (all (goal.at.invariant_of-result c).After-as_slice-axes) c.in_ok-shape.ensures (all_taken _ c.as_slice-axes.result.now c.loop-axis.axis-index _ c.loop-axis-test.false c.loop-axis.invariant.strides) c.as_slice-old_strides.ensures) in
    record {
      one_stride_an_axis = turned-length c.args.layout.now c.in_ok-shape.shape c.loop-axis.strides c.as_slice-axes.result.now turned;
      within_limit = turned-lies c.args.layout.now c.in_ok-shape.shape c.loop-axis.strides c.as_slice-axes.result.now turned;
      zero_if_empty = turned-zeros c.args.layout.now c.in_ok-shape.shape c.loop-axis.strides c.as_slice-axes.result.now turned;
    }

pub returns-clause-nested : goal.returns-clause-nested
returns-clause-nested c = turned-nested c.args.layout.now _ c.as_slice-axes.result.now (turned_as c.as_slice.ensures (all_taken _ c.as_slice-axes.result.now c.loop-axis.axis-index _ c.loop-axis-test.false c.loop-axis.invariant.lengths) c.as_slice-old_lengths.ensures.value (all (goal.at.returns-clause-nested c).After-as_slice-axes) c.in_ok-shape.ensures (all_taken _ c.as_slice-axes.result.now c.loop-axis.axis-index _ c.loop-axis-test.false c.loop-axis.invariant.strides) c.as_slice-old_strides.ensures) refl

pub returns-clause-view : goal.returns-clause-view
returns-clause-view c =
    let view = turned-is c.args.layout.now _ c.as_slice-axes.result.now (turned_as c.as_slice.ensures (all_taken _ c.as_slice-axes.result.now c.loop-axis.axis-index _ c.loop-axis-test.false c.loop-axis.invariant.lengths) c.as_slice-old_lengths.ensures.value (all (goal.at.returns-clause-view c).After-as_slice-axes) c.in_ok-shape.ensures (all_taken _ c.as_slice-axes.result.now c.loop-axis.axis-index _ c.loop-axis-test.false c.loop-axis.invariant.strides) c.as_slice-old_strides.ensures) refl in
    gives_transposed c.args.layout.now _ (option_copied c.args.axes) c.as_slice-axes.result.now (rw (← c.rank.ensures.value) (c.in_ok-named.ensures ∙ ap Ok (sym c.as_slice-axes.ensures))) view
