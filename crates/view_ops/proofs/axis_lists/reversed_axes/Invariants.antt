use Rattle.std.proofs.Common.{◌≡◌, ◌-◌, map}
use Rattle.view_ops.proofs.Words.{range_with_len}
use Rattle.view_ops.proofs.axis_lists.reversed_axes.Given as goal

abbrev pub invariant-loop-k : goal.invariant-loop-k
invariant-loop-k l = l.axes.items ≡ map (λ k. l.rank - 1 - k) (range_with_len 0 l.k)
