use Rattle.std.proofs.Common.{◌≡◌, ◌++◌, pos, drop, replicate}
use Rattle.broadcasting.proofs.Words.{kept_strides}
use Rattle.broadcasting.proofs.stretching.stretched_strides.Given as goal

abbrev pub invariant-loop-axis : goal.invariant-loop-axis
invariant-loop-axis l = l.made ++ kept_strides (drop l.axis l.lengths) (drop l.axis l.strides) ≡ replicate l.more (pos 0) ++ kept_strides l.lengths l.strides
