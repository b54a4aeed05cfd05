use Rattle.shape_strides.proofs.SingleLaws.{joined_items}
use Rattle.shape_strides.proofs.single_run.last_run.Goals as goal

pub one_of-requires-clause-outer : goal.one_of-requires-clause-outer
one_of-requires-clause-outer c =
    (joined_items c.args.strides.now c.args.lengths.now c.loop-axis.axis c.loop-axis.along c.loop-axis-test.true c.loop-axis.auto.axis c.loop-axis.invariant c.requires.some c.requires.items).0

pub one_of-requires-clause-inner : goal.one_of-requires-clause-inner
one_of-requires-clause-inner c =
    (joined_items c.args.strides.now c.args.lengths.now c.loop-axis.axis c.loop-axis.along c.loop-axis-test.true c.loop-axis.auto.axis c.loop-axis.invariant c.requires.some c.requires.items).1

pub one_of-requires-clause-items : goal.one_of-requires-clause-items
one_of-requires-clause-items c =
    (joined_items c.args.strides.now c.args.lengths.now c.loop-axis.axis c.loop-axis.along c.loop-axis-test.true c.loop-axis.auto.axis c.loop-axis.invariant c.requires.some c.requires.items).2
