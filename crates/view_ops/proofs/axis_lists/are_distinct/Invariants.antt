use Rattle.std.proofs.Common.{◌≡◌, drop}
use Rattle.view_ops.proofs.Words.{are_distinct}
use Rattle.view_ops.proofs.axis_lists.are_distinct.Given as goal

abbrev pub invariant-loop-k : goal.invariant-loop-k
invariant-loop-k l = are_distinct (drop l.k l.axes) ≡ are_distinct l.axes
