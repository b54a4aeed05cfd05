use Rattle.std.proofs.Common.{◌≡◌, ◌*◌, take, reverse}
use Rattle.shape_strides.proofs.Words.{count}
use Rattle.shape_strides.proofs.ContiguityLaws.{StepsOver}
use Rattle.shape_strides.proofs.layout.Layout.is_f.Given as goal

abbrev pub invariant-loop-axis : goal.invariant-loop-axis
invariant-loop-axis l = record {
  step_is : l.step ≡ count (reverse (take l.axis l.self.shape)) * l.item;
  steps : StepsOver l.item (reverse (take l.axis l.self.strides)) (reverse (take l.axis l.self.shape));
}
