use Rattle.std.proofs.Common.{◌≡◌, ◌*◌, ◌≤◌, length, drop}
use Rattle.shape_strides.proofs.Words.{count}
use Rattle.shape_strides.proofs.ContiguityLaws.{StepsOver}
use Rattle.shape_strides.proofs.layout.Layout.is_c.Given as goal

abbrev pub invariant-loop-axis : goal.invariant-loop-axis
invariant-loop-axis l = record {
  within : l.axis ≤ length l.self.shape;
  bytes_are : l.bytes ≡ count (drop l.axis l.self.shape) * l.item;
  steps : StepsOver l.item (drop l.axis l.self.strides) (drop l.axis l.self.shape);
}

abbrev pub decreases-loop-axis : goal.decreases-loop-axis
decreases-loop-axis l = l.axis
