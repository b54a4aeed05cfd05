use Rattle.std.proofs.Common.{◌<◌, ◌≤◌, ◌/◌, ℕ, List, [], map, length, take, drop, All, sym, ap, subst, ◌∙◌, arith}
use Rattle.fancy_index.proofs.Words.{BeginAt, strides_along, count, zero_filled, IsIndex-first, offsets, IsShape, other_axes, moved_all, AreStarts, shown_part}
use Rattle.fancy_index.proofs.CutLaws.{begins-before, begins-behind, strides-before, strides-behind}
use Rattle.fancy_index.proofs.LaidLaws.{IsLaid, rest-start, some_others, points_many, first-in, starts, is-plan, count-is, small-offset}
use Rattle.fancy_index.proofs.LeadLaws.{rest-are}
use Rattle.fancy_index.proofs.ShiftLaws.{all_ready_at}
use Rattle.fancy_index.proofs.SizeLaws.{middle-shape}
use Rattle.fancy_index.proofs.planning.plan_of_some.Goals as goal
use Rattle.fancy_index.proofs.planning.plan_of_some.Goals.{Start, In_ok-rest, In_ok-inner}

-- the other axes have items, and so do the points
both : (c : Start) → (0 < count (other_axes (map shown_part c.args.parts.now))) × (0 < count c.args.points.now)
both c = some_others c.args.parts.now c.args.points.now (omega (arith, ap count c.requires.shape, c.requires.some))

some : (c : In_ok-rest) → 0 < count c.in_ok-rest.rest.shape
some c = omega (arith, (some_others c.args.parts.now c.args.points.now (omega (arith, ap count c.requires.shape, c.requires.some))).0, ap count c.in_ok-rest.ensures.ok.shape)

-- the axes before and after the place of the points
laid : (c : In_ok-inner) → 0 < count c.in_ok-rest.rest.shape → IsLaid c.args.layout.now c.in_ok-rest.rest c.in_ok-outer.outer c.in_ok-inner.inner c.args.parts.now c.args.points.now
laid c some =
    let rest = c.in_ok-rest.rest in
    let k = c.points_place-place.result in
    let place = c.points_place-place.ensures.value in
    let before = c.split_at.ensures.front ∙ ap (take k) c.as_slice.ensures.value in
    let after = c.split_at.ensures.back ∙ ap (drop k) c.as_slice.ensures.value in
    let within : k ≤ length rest.shape = omega (arith, c.points_place-place.ensures.within, ap length c.in_ok-rest.ensures.ok.shape) in
    record {
      are = c.requires.are;
      ready = c.requires.ready;
      is_rest = c.in_ok-rest.ensures.ok;
      some = omega (arith, some, ap count c.in_ok-rest.ensures.ok.shape);
      outer_shape = c.in_ok-outer.ensures.shape ∙ before ∙ ap (λ k. take k rest.shape) place;
      outer_strides = c.in_ok-outer.ensures.strides ∙ ap (strides_along rest 0) before ∙ strides-before rest k within some ∙ ap (λ k. take k rest.strides) place;
      outer_offset = c.in_ok-outer.ensures.offset;
      inner_shape = c.in_ok-inner.ensures.shape ∙ after ∙ ap (λ k. drop k rest.shape) place;
      inner_strides = c.in_ok-inner.ensures.strides ∙ ap (strides_along rest k) after ∙ strides-behind rest k within some ∙ ap (λ k. drop k rest.strides) place;
      inner_offset = c.in_ok-inner.ensures.offset;
    }

pub nonzero_div-many : goal.nonzero_div-many
nonzero_div-many c = omega (arith, some (goal.at.nonzero_div-many c).In_ok-rest, c.items-2.ensures.value)

pub along-requires : goal.along-requires
along-requires c =
    let rest = c.in_ok-rest.rest in
    let k = c.points_place-place.result in
    let before = c.split_at.ensures.front ∙ ap (take k) c.as_slice.ensures.value in
    let within : k ≤ length rest.shape = omega (arith, c.points_place-place.ensures.within, ap length c.in_ok-rest.ensures.ok.shape) in
    subst (BeginAt rest 0 rest.offset) (sym before) (begins-before rest k within (some (goal.at.along-requires c).In_ok-rest))

pub along-requires-2 : goal.along-requires-2
along-requires-2 c =
    let rest = c.in_ok-rest.rest in
    let k = c.points_place-place.result in
    let after = c.split_at.ensures.back ∙ ap (drop k) c.as_slice.ensures.value in
    let within : k ≤ length rest.shape = omega (arith, c.points_place-place.ensures.within, ap length c.in_ok-rest.ensures.ok.shape) in
    subst (BeginAt rest k rest.offset) (sym after) (begins-behind rest k within (some (goal.at.along-requires-2 c).In_ok-rest))

pub shifts-requires-clause-start : goal.shifts-requires-clause-start
shifts-requires-clause-start c = rest-start c.args.layout.now c.in_ok-rest.rest c.in_ok-outer.outer c.in_ok-inner.inner c.args.parts.now c.args.points.now (laid (goal.at.shifts-requires-clause-start c).In_ok-inner (some (goal.at.shifts-requires-clause-start c).In_ok-rest))

pub shifts-requires-clause-leads : goal.shifts-requires-clause-leads
shifts-requires-clause-leads c = first-in c.args.layout.now c.in_ok-rest.rest c.in_ok-outer.outer c.in_ok-inner.inner c.args.parts.now c.args.points.now (laid (goal.at.shifts-requires-clause-leads c).In_ok-inner (some (goal.at.shifts-requires-clause-leads c).In_ok-rest))

pub shifts-requires-clause-many : goal.shifts-requires-clause-many
shifts-requires-clause-many c =
    (λ i. c.items.ensures.value i / c.items-2.ensures.value i)
    ∙ (λ i. count (c.requires.shape i) / count (c.in_ok-rest.ensures.ok.shape i))
    ∙ points_many c.args.parts.now c.args.points.now (both (goal.at.shifts-requires-clause-many c).Start).0

pub try_new-requires-clause-count : goal.try_new-requires-clause-count
try_new-requires-clause-count c =
    ap (λ s. length (moved_all c.in_ok-inner.inner.offset (offsets c.in_ok-outer.outer) s (offsets c.in_ok-inner.inner))) c.in_ok-shifts.ensures.ok
    ∙ count-is c.args.layout.now c.in_ok-rest.rest c.in_ok-outer.outer c.in_ok-inner.inner c.args.parts.now c.args.points.now (laid (goal.at.try_new-requires-clause-count c).In_ok-inner (some (goal.at.try_new-requires-clause-count c).In_ok-rest))
    ∙ sym (ap count c.requires.shape)

pub try_new-requires-clause-small : goal.try_new-requires-clause-small
try_new-requires-clause-small c = small-offset c.args.layout.now c.in_ok-rest.rest c.in_ok-outer.outer c.in_ok-inner.inner c.args.parts.now c.args.points.now (laid (goal.at.try_new-requires-clause-small c).In_ok-inner (some (goal.at.try_new-requires-clause-small c).In_ok-rest))

pub try_new-requires-clause-starts : goal.try_new-requires-clause-starts
try_new-requires-clause-starts c =
    subst (λ (s : List ℕ). All (AreStarts c.in_ok-inner.inner.offset (offsets c.in_ok-inner.inner) s) (offsets c.in_ok-outer.outer)) (sym c.in_ok-shifts.ensures.ok) (starts c.args.layout.now c.in_ok-rest.rest c.in_ok-outer.outer c.in_ok-inner.inner c.args.parts.now c.args.points.now (laid (goal.at.try_new-requires-clause-starts c).In_ok-inner (some (goal.at.try_new-requires-clause-starts c).In_ok-rest)))

pub returns-clause-ok : goal.returns-clause-ok
returns-clause-ok c =
    is-plan c.args.layout.now c.in_ok-rest.rest c.in_ok-outer.outer c.in_ok-inner.inner c.args.parts.now c.args.points.now (laid (goal.at.returns-clause-ok c).In_ok-inner (some (goal.at.returns-clause-ok c).In_ok-rest)) c.in_ok-try_new.field-0
    (c.in_ok-try_new.ensures.shape ∙ c.requires.shape)
    (c.in_ok-try_new.ensures.offsets ∙ ap (λ s. moved_all c.in_ok-inner.inner.offset (offsets c.in_ok-outer.outer) s (offsets c.in_ok-inner.inner)) c.in_ok-shifts.ensures.ok)

pub shifts-requires-clause-origin : goal.shifts-requires-clause-origin
shifts-requires-clause-origin c =
    let shape = c.as_slice-lengths.ensures in
    let is : IsShape c.args.shape = record { axes = shape.rank; lengths = shape.lengths; items = shape.items } in
    record {
      small = omega (arith, c.in_ok-inner.ensures.offset, small-offset c.args.layout.now c.in_ok-rest.rest c.in_ok-outer.outer c.in_ok-inner.inner c.args.parts.now c.args.points.now (laid (goal.at.shifts-requires-clause-origin c).In_ok-inner (some (goal.at.shifts-requires-clause-origin c).In_ok-rest)));
      shape = middle-shape _ c.args.points.now _ (subst IsShape c.requires.shape is) (omega (arith, ap count c.requires.shape, c.requires.some));
      some = (both (goal.at.shifts-requires-clause-origin c).Start).1;
    }

pub rest-requires-clause-picks : goal.rest-requires-clause-picks
rest-requires-clause-picks c =
    let points = c.args.points.now in
    let some = (both (goal.at.rest-requires-clause-picks c).Start).1 in
    let first = zero_filled points [] in
    rest-are first c.args.layout.now.shape c.args.parts.now c.requires.are (all_ready_at points first c.args.parts.now (IsIndex-first points some) c.requires.ready)
