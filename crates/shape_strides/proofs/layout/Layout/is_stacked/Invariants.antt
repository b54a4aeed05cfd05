use Rattle.std.proofs.Common.{ℕ, ◌+◌, ◌*◌, ◌<◌, ◌≤◌, pos, unsigned_abs, get_or}
use Rattle.shape_strides.proofs.Words.{reach_within}
use Rattle.shape_strides.proofs.layout.Layout.is_stacked.Given as goal

abbrev pub invariant-loop-axis : goal.invariant-loop-axis
invariant-loop-axis l =
    (k : ℕ) → k < l.axis → 2 ≤ get_or l.self.shape k 0 → l.item + reach_within (unsigned_abs (get_or l.self.strides k (pos 0))) l.self.strides l.self.shape ≤ unsigned_abs (get_or l.self.strides k (pos 0)) * get_or l.self.shape k 0
