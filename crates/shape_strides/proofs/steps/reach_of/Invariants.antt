use Rattle.std.proofs.Common.{◌≡◌, ◌+◌, ◌*◌, ◌≤◌, drop}
use Rattle.shape_strides.proofs.Words.{reach_above, reach_below, max_reach}
use Rattle.shape_strides.proofs.steps.reach_of.Given as goal

abbrev pub invariant-loop-axis : goal.invariant-loop-axis
invariant-loop-axis l = record {
  low : l.reach.below ≤ l.axis * max_reach;
  high : l.reach.above ≤ l.axis * max_reach;
  below : l.reach.below + reach_below (drop l.axis l.strides) (drop l.axis l.lengths) ≡ reach_below l.strides l.lengths;
  above : l.reach.above + reach_above (drop l.axis l.strides) (drop l.axis l.lengths) ≡ reach_above l.strides l.lengths;
}
