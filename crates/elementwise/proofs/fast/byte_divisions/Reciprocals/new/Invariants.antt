use Rattle.std.proofs.Common.{◌≡◌, ◌+◌, ◌/◌, ◌<◌, ◌≤◌, ℕ, length, get_or}
use Rattle.elementwise.proofs.fast.byte_divisions.Reciprocals.new.Given as goal

-- the reciprocals of the smaller divisors are there
abbrev pub invariant-loop-by : goal.invariant-loop-by
invariant-loop-by l = record {
  size : length l.each ≡ 256;
  none : get_or l.each 0 0 ≡ 0;
  are : (by : ℕ) → 1 ≤ by → by < l.by → get_or l.each by 0 ≡ 65535 / by + 1;
}
