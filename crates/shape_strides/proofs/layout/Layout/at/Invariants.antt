use Rattle.std.proofs.Common.{◌≡◌, pos, take, ◌+ℤ◌}
use Rattle.shape_strides.specs.Layouts.{dot}
use Rattle.shape_strides.proofs.layout.Layout.at.Given as goal

abbrev pub invariant-loop-axis : goal.invariant-loop-axis
invariant-loop-axis l = pos l.at ≡ pos l.self.offset +ℤ dot l.self.strides (take l.axis l.index)
