use Rattle.std.proofs.Common.{◌≡◌, drop, reverse}
use Rattle.shape_strides.proofs.Words.{strided_axes, all_joined}
use Rattle.shape_strides.proofs.single_run.joined_axes.Given as goal

abbrev pub invariant-loop-axis : goal.invariant-loop-axis
invariant-loop-axis l = reverse l.axes.items ≡ all_joined (strided_axes (drop l.axis l.strides) (drop l.axis l.lengths))
