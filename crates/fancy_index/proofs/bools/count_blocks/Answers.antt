use Rattle.std.proofs.Common.{ap, arith}
use Rattle.fancy_index.proofs.Words.{drop_all, bools_in, true_count}
use Rattle.fancy_index.proofs.BoolLaws.{few-true, length-bools}
use Rattle.fancy_index.proofs.bools.count_blocks.Goals as goal

pub overflow_add-many : goal.overflow_add-many
overflow_add-many c = record { fits = omega (arith, c.loop-from.invariant.counted, c.count_few.ensures, few-true (bools_in c.args.bools), length-bools c.args.bools, c.requires.few) }

pub returns : goal.returns
returns c = omega (arith, c.loop-from.invariant.counted, ap true_count (drop_all c.loop-from.from (bools_in c.args.bools) (omega (arith, c.loop-from-test.false, length-bools c.args.bools))))
