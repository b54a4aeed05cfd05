use Rattle.std.proofs.Common.{◌≡◌, map, take}
use Rattle.view_ops.proofs.Words.{natural, from_front}
use Rattle.view_ops.proofs.axis_lists.named_axes.Given as goal

abbrev pub invariant-loop-axis : goal.invariant-loop-axis
invariant-loop-axis l = l.axes.items ≡ map (λ axis. natural (from_front l.rank axis)) (take l.axis-index l.named)
