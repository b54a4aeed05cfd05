use Rattle.view_ops.proofs.PickViews.{HaveStepped}
use Rattle.view_ops.proofs.picks.picked_strides.Given as goal

abbrev pub invariant-loop-pick : goal.invariant-loop-pick
invariant-loop-pick l = HaveStepped l.strides l.made l.picks l.pick-index l.axis
