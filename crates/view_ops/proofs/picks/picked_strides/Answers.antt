use Rattle.view_ops.proofs.Words.{At}
use Rattle.view_ops.proofs.PickViews.{step_at, stepped_on}
use Rattle.view_ops.proofs.picks.picked_strides.Goals as goal

pub push_stride-requires-clause-small : goal.push_stride-requires-clause-small
push_stride-requires-clause-small c = (step_at c.args.strides.now c.loop-pick.made c.args.picks.now c.loop-pick.pick-index c.loop-pick.axis (At 0) c.loop-pick-test.true c.loop-pick.invariant).small

pub loop-pick-preserved : goal.loop-pick-preserved
loop-pick-preserved c =
    rw c.axes_of_pick-axis.ensures (stepped_on c.args.strides.now c.loop-pick.made c.push_stride.new.made c.args.picks.now c.loop-pick.pick-index c.loop-pick.axis (At 0) c.loop-pick-test.true c.in_ok-push_stride.ensures c.loop-pick.invariant)
