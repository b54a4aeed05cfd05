use Rattle.std.proofs.Common.{◌∙◌, arith}
use Rattle.shape_strides.proofs.AdvanceLaws.{starts_at, turns_at, number_low, length_is, offset-lt, step-address, step-bounds, IsIndex-stepped, rank-next, set-next, back-range, stands_before, over}
use Rattle.shape_strides.proofs.walk.advance.Goals as goal

pub loop-axis-init : goal.loop-axis-init
loop-axis-init c = starts_at c.requires.index c.requires.offset

pub bounds-index-axis : goal.bounds-index-axis
bounds-index-axis c =
    let t = turns_at c.requires.axes c.requires.index c.loop-axis-test.true c.loop-axis.invariant in
    omega (arith, length_is t, t.below)

pub overflow_add-number : goal.overflow_add-number
overflow_add-number c = record { fits = omega (arith, number_low (turns_at c.requires.axes c.requires.index c.loop-axis-test.true c.loop-axis.invariant)) }

pub bounds-index-axis-then-number-lengths : goal.bounds-index-axis-then-number-lengths
bounds-index-axis-then-number-lengths c =
    let t = turns_at c.requires.axes c.requires.index c.loop-axis-test.true c.loop-axis.invariant in
    omega (arith, length_is t, t.below)

pub bounds-index-axis-in-loop-axis : goal.bounds-index-axis-in-loop-axis
bounds-index-axis-in-loop-axis c =
    let t = turns_at c.requires.axes c.requires.index c.loop-axis-test.true c.loop-axis.invariant in
    omega (arith, length_is t, t.below)

pub forward-requires-clause-start : goal.forward-requires-clause-start
forward-requires-clause-start c = omega (arith, offset-lt (turns_at c.requires.axes c.requires.index c.loop-axis-test.true c.loop-axis.invariant))

pub forward-requires-clause-low : goal.forward-requires-clause-low
forward-requires-clause-low c = (step-bounds (turns_at c.requires.axes c.requires.index c.loop-axis-test.true c.loop-axis.invariant) (omega arith)).0

pub forward-requires-clause-high : goal.forward-requires-clause-high
forward-requires-clause-high c = (step-bounds (turns_at c.requires.axes c.requires.index c.loop-axis-test.true c.loop-axis.invariant) (omega arith)).1

pub returns-then-number-lengths-clause-index : goal.returns-then-number-lengths-clause-index
returns-then-number-lengths-clause-index c =
    let t = turns_at c.requires.axes c.requires.index c.loop-axis-test.true c.loop-axis.invariant in
    rw (set-next t) (IsIndex-stepped t (omega arith))

pub returns-then-number-lengths-clause-rank : goal.returns-then-number-lengths-clause-rank
returns-then-number-lengths-clause-rank c =
    let t = turns_at c.requires.axes c.requires.index c.loop-axis-test.true c.loop-axis.invariant in
    λ _. rw (set-next t) (rank-next t)

pub returns-then-number-lengths-clause-offset : goal.returns-then-number-lengths-clause-offset
returns-then-number-lengths-clause-offset c =
    let t = turns_at c.requires.axes c.requires.index c.loop-axis-test.true c.loop-axis.invariant in
    rw (set-next t) (c.forward.ensures ∙ step-address t)

pub back-offset-requires-clause-start : goal.back-offset-requires-clause-start
back-offset-requires-clause-start c = omega (arith, offset-lt (turns_at c.requires.axes c.requires.index c.loop-axis-test.true c.loop-axis.invariant))

pub back-offset-requires-clause-steps : goal.back-offset-requires-clause-steps
back-offset-requires-clause-steps c = omega (arith, number_low (turns_at c.requires.axes c.requires.index c.loop-axis-test.true c.loop-axis.invariant))

pub back-offset-requires-clause-low : goal.back-offset-requires-clause-low
back-offset-requires-clause-low c = (back-range (turns_at c.requires.axes c.requires.index c.loop-axis-test.true c.loop-axis.invariant)).0

pub back-offset-requires-clause-high : goal.back-offset-requires-clause-high
back-offset-requires-clause-high c = (back-range (turns_at c.requires.axes c.requires.index c.loop-axis-test.true c.loop-axis.invariant)).1

pub loop-axis-preserved : goal.loop-axis-preserved
loop-axis-preserved c = stands_before (turns_at c.requires.axes c.requires.index c.loop-axis-test.true c.loop-axis.invariant) (omega arith) c.back-offset.ensures

pub returns-clause-index : goal.returns-clause-index
returns-clause-index c = (over c.loop-axis-test.false c.requires.index c.loop-axis.invariant).0

pub returns-clause-offset : goal.returns-clause-offset
returns-clause-offset c = (over c.loop-axis-test.false c.requires.index c.loop-axis.invariant).2
