use Rattle.std.proofs.Common.{◌/◌, ◌%◌, ◌<◌, length, get_or, ap, ◌∙◌, sym, subst, arith}
use Rattle.fancy_index.proofs.Words.{offsets, moved_offset, offsets_from, IsMoved}
use Rattle.fancy_index.proofs.PlanLaws.{some-shift, some-item, shift-low, place-low, start-moved, item-moved, item-is}
use Rattle.fancy_index.proofs.plans.Plan.offset.Goals as goal
use Rattle.fancy_index.proofs.plans.Plan.offset.Goals.{After-items-inner}

low : (c : After-items-inner) → c.args.rank < length (offsets_from c.axes-axes.result.now)
low c = omega (arith, ap length c.axes-axes.ensures, c.requires)

inner-some : (c : After-items-inner) → 0 < c.items-inner.result
inner-some c = some-item c.axes-axes.result.now c.args.rank _ _ (low c) (ap length c.as_slice-shifts.ensures.value) c.items-inner.ensures.value

shift-in : (c : After-items-inner) → c.args.rank / c.items-inner.result % length c.as_slice-shifts.result.now < length c.as_slice-shifts.result.now
shift-in c = omega (arith, shift-low c.axes-axes.result.now c.args.rank _ _ (low c) (ap length c.as_slice-shifts.ensures.value) c.items-inner.ensures.value, ap length c.as_slice-shifts.ensures.value)

shifts-some : (c : After-items-inner) → 0 < length c.as_slice-shifts.result.now
shifts-some c = some-shift c.axes-axes.result.now c.args.rank _ _ (low c) (ap length c.as_slice-shifts.ensures.value) c.items-inner.ensures.value

pub nonzero_div-row : goal.nonzero_div-row
nonzero_div-row c = inner-some (goal.at.nonzero_div-row c).After-items-inner

pub nonzero_div-row-2 : goal.nonzero_div-row-2
nonzero_div-row-2 c = shifts-some (goal.at.nonzero_div-row-2 c).After-items-inner

pub nonzero_rem-row : goal.nonzero_rem-row
nonzero_rem-row c = shifts-some (goal.at.nonzero_rem-row c).After-items-inner

pub nonzero_rem-rank : goal.nonzero_rem-rank
nonzero_rem-rank c = inner-some (goal.at.nonzero_rem-rank c).After-items-inner

pub at_rank-place-requires : goal.at_rank-place-requires
at_rank-place-requires c =
    place-low c.axes-axes.result.now c.args.rank _ _ (low (goal.at.at_rank-place-requires c).After-items-inner) (ap length c.as_slice-shifts.ensures.value) c.items-inner.ensures.value

pub offset_bounds-shifts-row : goal.offset_bounds-shifts-row
offset_bounds-shifts-row c =
    let inside = shift-in (goal.at.offset_bounds-shifts-row c).After-items-inner in
    record { fits = omega (arith, inside, c.as_slice-shifts.ensures.len) }

pub bounds-shifts-row : goal.bounds-shifts-row
bounds-shifts-row c = shift-in (goal.at.bounds-shifts-row c).After-items-inner

pub at_rank-requires : goal.at_rank-requires
at_rank-requires c =
    let some = inner-some (goal.at.at_rank-requires c).After-items-inner in
    omega (arith, c.items-inner.ensures.value)

pub moved-start-requires-clause-moved : goal.moved-start-requires-clause-moved
moved-start-requires-clause-moved c =
    let axes = c.axes-axes.result.now in
    let s = c.args.rank / c.items-inner.result % length c.as_slice-shifts.result.now in
    subst (λ p. IsMoved axes.inner.offset p (get_or c.as_slice-shifts.result.now s 0)) (sym c.at_rank-place.ensures.entry)
    (subst (λ l. IsMoved axes.inner.offset (get_or (offsets axes.outer) (c.args.rank / c.items-inner.result / length c.as_slice-shifts.result.now) 0) (get_or l s 0)) (sym c.as_slice-shifts.ensures.value)
    (start-moved axes c.args.rank _ _ (low (goal.at.moved-start-requires-clause-moved c).After-items-inner) (ap length c.as_slice-shifts.ensures.value) c.items-inner.ensures.value))

pub moved-requires-clause-moved : goal.moved-requires-clause-moved
moved-requires-clause-moved c =
    let axes = c.axes-axes.result.now in
    let s = c.args.rank / c.items-inner.result % length c.as_slice-shifts.result.now in
    let start = c.moved-start.ensures.value ∙ (λ i. moved_offset axes.inner.offset (c.at_rank-place.ensures.entry i) (get_or (c.as_slice-shifts.ensures.value i) s 0)) in
    subst (λ x. IsMoved axes.inner.offset x c.at_rank.result) (sym start)
    (subst (IsMoved axes.inner.offset (moved_offset axes.inner.offset (get_or (offsets axes.outer) (c.args.rank / c.items-inner.result / length c.as_slice-shifts.result.now) 0) (get_or axes.shifts.items s 0))) (sym c.at_rank.ensures.entry)
    (item-moved axes c.args.rank _ _ (low (goal.at.moved-requires-clause-moved c).After-items-inner) (ap length c.as_slice-shifts.ensures.value) c.items-inner.ensures.value))

pub returns : goal.returns
returns c =
    let axes = c.axes-axes.result.now in
    let s = c.args.rank / c.items-inner.result % length c.as_slice-shifts.result.now in
    let start = c.moved-start.ensures.value ∙ (λ i. moved_offset axes.inner.offset (c.at_rank-place.ensures.entry i) (get_or (c.as_slice-shifts.ensures.value i) s 0)) in
    c.moved.ensures.value
    ∙ (λ i. moved_offset axes.inner.offset (start i) (c.at_rank.ensures.entry i))
    ∙ sym (item-is axes c.args.rank _ _ (low (goal.at.returns c).After-items-inner) (ap length c.as_slice-shifts.ensures.value) c.items-inner.ensures.value)
    ∙ ap (λ l. get_or l c.args.rank 0) c.axes-axes.ensures
