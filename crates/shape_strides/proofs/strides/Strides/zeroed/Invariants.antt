use Rattle.std.proofs.Common.{◌≡◌, ℕ, ◌<◌, pos, length, get_or}
use Rattle.shape_strides.proofs.strides.Strides.zeroed.Given as goal

abbrev pub invariant-loop-step : goal.invariant-loop-step
invariant-loop-step l = record {
  size : length l.step-items ≡ length l.fn.self;
  zeros : (k : ℕ) → k < l.step-index → get_or l.step-items k (pos 0) ≡ pos 0;
}
