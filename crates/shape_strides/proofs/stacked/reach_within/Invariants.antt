use Rattle.std.proofs.Common.{◌≡◌, ◌+◌, ◌*◌, ◌≤◌, drop}
use Rattle.shape_strides.proofs.Words.{reach_within, max_reach}
use Rattle.shape_strides.proofs.stacked.reach_within.Given as goal

abbrev pub invariant-loop-axis : goal.invariant-loop-axis
invariant-loop-axis l = record {
  small : l.reach ≤ l.axis * max_reach;
  rest : l.reach + reach_within l.step (drop l.axis l.strides) (drop l.axis l.lengths) ≡ reach_within l.step l.strides l.lengths;
}
