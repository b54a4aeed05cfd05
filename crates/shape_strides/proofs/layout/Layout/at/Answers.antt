use Rattle.std.proofs.Common.{◌≡◌, ◌+ℤ◌, pos, length, take, sym, ap, ◌∙◌, arith, add-one, take_all}
use Rattle.shape_strides.proofs.Words.{ints, +ℤ_idr, dot, dot-nil, length-index, number-lt, rank-lt, length-offsets, pos-offset}
use Rattle.shape_strides.proofs.StepLaws.{goes_on}
use Rattle.shape_strides.proofs.layout.Layout.at.Goals as goal

pub loop-axis-init : goal.loop-axis-init
loop-axis-init c = sym (ap (λ z. pos c.args.self.now.offset +ℤ z) (dot-nil c.args.self.now.strides) ∙ +ℤ_idr (pos c.args.self.now.offset))

pub forward-at-requires-clause-axis : goal.forward-at-requires-clause-axis
forward-at-requires-clause-axis c =
    let one = c.args.self.now.one_stride_an_axis in
    let size = length-index c.args.self.now.shape c.args.index.now c.requires in
    omega (arith, ap length c.as_slice-strides.ensures)

pub forward-at-requires-clause-start : goal.forward-at-requires-clause-start
forward-at-requires-clause-start c =
    let on = goes_on c.args.self.now c.args.index.now c.loop-axis.axis c.loop-axis.at (record { in_shape = c.requires; below = c.loop-axis-test.true; so_far = c.loop-axis.invariant }) in
    omega (arith, on.start)

pub forward-at-requires-clause-steps : goal.forward-at-requires-clause-steps
forward-at-requires-clause-steps c =
    let size = length-index c.args.self.now.shape c.args.index.now c.requires in
    let below = number-lt c.args.self.now.shape c.args.index.now c.loop-axis.axis c.requires (omega arith) in
    let limit = c.as_slice-lengths.ensures.lengths c.loop-axis.axis 0 (omega arith) in
    omega arith

pub forward-at-requires-clause-low : goal.forward-at-requires-clause-low
forward-at-requires-clause-low c =
    let on = goes_on c.args.self.now c.args.index.now c.loop-axis.axis c.loop-axis.at (record { in_shape = c.requires; below = c.loop-axis-test.true; so_far = c.loop-axis.invariant }) in
    rw c.as_slice-strides.ensures on.low

pub forward-at-requires-clause-high : goal.forward-at-requires-clause-high
forward-at-requires-clause-high c =
    let on = goes_on c.args.self.now c.args.index.now c.loop-axis.axis c.loop-axis.at (record { in_shape = c.requires; below = c.loop-axis-test.true; so_far = c.loop-axis.invariant }) in
    rw c.as_slice-strides.ensures on.high

pub loop-axis-preserved : goal.loop-axis-preserved
loop-axis-preserved c =
    let on = goes_on c.args.self.now c.args.index.now c.loop-axis.axis c.loop-axis.at (record { in_shape = c.requires; below = c.loop-axis-test.true; so_far = c.loop-axis.invariant }) in
    let step = rw c.as_slice-strides.ensures at c.forward-at.ensures in
    rw (add-one c.loop-axis.axis) (step ∙ on.more)

pub returns-clause-entry : goal.returns-clause-entry
returns-clause-entry c =
    let l = c.args.self.now in
    let whole : take c.loop-axis.axis c.args.index.now ≡ c.args.index.now = take_all c.loop-axis.axis c.args.index.now (omega arith) in
    let is = c.loop-axis.invariant ∙ ap (λ i. pos l.offset +ℤ dot l.strides i) whole in
    let entry = pos-offset l c.args.index.now 0 c.requires in
    let same = is ∙ sym entry in
    omega (arith, ints, same)

pub returns-clause-among : goal.returns-clause-among
returns-clause-among c =
    omega (arith, length-offsets c.args.self.now, rank-lt c.args.self.now.shape c.args.index.now c.requires)
