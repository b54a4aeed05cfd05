use Rattle.std.proofs.Common.{◌≡◌, ◌-◌, ◌<◌, ◌≤◌, ℕ, get_or, length}
use Rattle.array_print.proofs.axes.past_ones.Given as goal

-- the axes so far have length 1
abbrev pub invariant-loop-next : goal.invariant-loop-next
invariant-loop-next l = record {
  from : l.axis ≤ l.next;
  within : l.next ≤ length l.lengths;
  ones : (k : ℕ) → l.axis ≤ k → k < l.next → get_or l.lengths k 0 ≡ 1;
}

abbrev pub decreases-loop-next : goal.decreases-loop-next
decreases-loop-next l = length l.lengths - l.next
