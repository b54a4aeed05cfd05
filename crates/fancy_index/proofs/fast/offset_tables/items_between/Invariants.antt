use Rattle.std.proofs.Common.{◌≤◌, length}
use Rattle.fancy_index.proofs.fast.offset_tables.items_between.Given as goal

abbrev pub invariant-loop-axis : goal.invariant-loop-axis
invariant-loop-axis l = l.axis ≤ length l.lengths

abbrev pub decreases-loop-axis : goal.decreases-loop-axis
decreases-loop-axis l = l.axis
