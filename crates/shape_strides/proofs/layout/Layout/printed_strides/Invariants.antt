use Rattle.std.proofs.Common.{◌≡◌, take}
use Rattle.shape_strides.proofs.Words.{offsets, printed_strides}
use Rattle.shape_strides.proofs.layout.Layout.printed_strides.Given as goal

abbrev pub invariant-loop-axis : goal.invariant-loop-axis
invariant-loop-axis l = l.printed ≡ take l.axis (printed_strides l.layout.shape (offsets l.layout))
