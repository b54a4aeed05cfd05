use Rattle.std.proofs.Common.{◌≡◌, map, take, get_or, pos}
use Rattle.view_ops.proofs.transposition.transpose.Given as goal

abbrev pub invariant-loop-axis : goal.invariant-loop-axis
invariant-loop-axis l = record {
  lengths : l.lengths.items ≡ map (λ axis. get_or l.old_lengths axis 0) (take l.axis-index l.axes);
  strides : l.strides ≡ map (λ axis. get_or l.old_strides axis (pos 0)) (take l.axis-index l.axes);
}
