use Rattle.std.proofs.Common.{arith}
use Rattle.shape_strides.proofs.Words.{ints}
use Rattle.shape_strides.proofs.PairLaws.{after-range}
use Rattle.shape_strides.proofs.run_pairs.after.Goals as goal

pub offset_after-requires-clause-low : goal.offset_after-requires-clause-low
offset_after-requires-clause-low c = (after-range c.args.run c.args.n c.requires.n c.if-run-n.false c.requires.run).0

pub offset_after-requires-clause-high : goal.offset_after-requires-clause-high
offset_after-requires-clause-high c =
    let high = (after-range c.args.run c.args.n c.requires.n c.if-run-n.false c.requires.run).1 in
    omega (arith, ints, high)
