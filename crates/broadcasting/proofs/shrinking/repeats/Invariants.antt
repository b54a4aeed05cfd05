use Rattle.std.proofs.Common.{◌≡◌, ◌<◌, ℕ, pos, length, get_or}
use Rattle.broadcasting.proofs.shrinking.repeats.Given as goal

-- Items repeat along none of the axes so far.
abbrev pub invariant-loop-axis : goal.invariant-loop-axis
invariant-loop-axis l = (k : ℕ) → k < l.axis → (k < length l.lengths) × (1 < get_or l.lengths k 0) × (get_or l.strides k (pos 0) ≡ pos 0) → ⊥
