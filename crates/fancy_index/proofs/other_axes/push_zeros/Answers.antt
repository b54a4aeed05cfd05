use Rattle.view_ops.specs.declared.picks.AxisPick.TheVariants.{At as AtAxis}
use Rattle.fancy_index.proofs.NumberLoops.{filled_more}
use Rattle.fancy_index.proofs.other_axes.push_zeros.Goals as goal

pub loop-preserved : goal.loop-preserved
loop-preserved c = filled_more (AtAxis 0) c.args.axes.now c.loop.index c.loop.picks.items c.push.new.self.items _ c.loop-test.true c.in_ok-push.ensures.ok c.loop.invariant
