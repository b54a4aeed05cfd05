use Rattle.std.proofs.Common.{◌≡◌, ◌<◌, ℕ, pos, length, get_or}
use Rattle.broadcasting.proofs.Words.{ShrinksTo}
use Rattle.broadcasting.proofs.shrinking.shrunk_shape.Given as goal

abbrev pub invariant-loop-axis : goal.invariant-loop-axis
invariant-loop-axis l = record {
  axes : length l.shrunk.items ≡ l.axis;
  first : (k : ℕ) → k < l.axis → ShrinksTo (get_or l.lengths k 0) (get_or l.strides k (pos 0)) (get_or l.shrunk.items k 0);
  second : (k : ℕ) → k < l.axis → ShrinksTo (get_or l.lengths k 0) (get_or l.others k (pos 0)) (get_or l.shrunk.items k 0);
}
