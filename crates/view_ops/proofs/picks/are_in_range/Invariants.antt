use Rattle.std.proofs.Common.{◌≡◌, ◌-◌, ◌≤◌, length, drop}
use Rattle.view_ops.proofs.Words.{axes_taken, are_on_axes}
use Rattle.view_ops.proofs.picks.are_in_range.Given as goal

abbrev pub invariant-loop-k : goal.invariant-loop-k
invariant-loop-k g l = record {
  within : l.axis ≤ length l.lengths;
  enough : axes_taken (drop l.k l.items) ≤ length l.lengths - l.axis;
  left : are_on_axes (drop l.axis l.lengths) (drop l.k l.items) ≡ are_on_axes l.lengths l.items;
}
