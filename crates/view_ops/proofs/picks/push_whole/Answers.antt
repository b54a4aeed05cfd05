use Rattle.std.proofs.lemmas.List.{take_more}
use Rattle.view_ops.proofs.PickLaws.{whole_more}
use Rattle.view_ops.proofs.picks.push_whole.Goals as goal

pub loop-n-preserved : goal.loop-n-preserved
loop-n-preserved c = rw (c.in_ok-push.ensures.ok, take_more c.args.axes.now c.loop-n.n-index 0 c.loop-n-test.true) (whole_more _ _ _ _ _ c.whole_axis.ensures.within c.whole_axis.ensures.whole c.loop-n.invariant)
