use Rattle.std.proofs.lemmas.List.{take_more}
use Rattle.fancy_index.proofs.PartLaws.{whole_more}
use Rattle.fancy_index.proofs.index_parts.push_wholes.Goals as goal

pub loop-n-preserved : goal.loop-n-preserved
loop-n-preserved c = rw (c.in_ok-push.ensures.items, take_more c.args.axes.now c.loop-n.n-index 0 c.loop-n-test.true) (whole_more _ _ _ _ _ c.whole_axis.ensures.within c.whole_axis.ensures.whole c.loop-n.invariant)
