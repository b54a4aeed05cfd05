use Rattle.std.proofs.Common.{pos}
use Rattle.view_ops.proofs.Words.{get_or_read, Integer}
use Rattle.view_ops.proofs.PickLaws.{picked_more}
use Rattle.view_ops.proofs.picks.set_picks.Goals as goal

pub loop-k-preserved : goal.loop-k-preserved
loop-k-preserved g c =
    let item = get_or_read c.args.items.now c.loop-k.k c.index-items-k.result c.loop-k-test.true c.index-items-k.is (Integer (pos 0)) in
    let adds = rw item at c.in_ok-push_picks.ensures in
    picked_more c.args.lengths.now c.args.items.now c.loop-k.made.items c.push_picks.new.picks.items c.loop-k.k c.loop-k.axis c.axes_end-end.result c.loop-k-test.true c.axes_end-end.ensures.from c.axes_end-end.ensures.within c.axes_end-end.ensures.enough c.axes_end-end.ensures.value c.loop-k.invariant adds
