use Rattle.std.proofs.Common.{◌≡◌, ◌+◌, ◌-◌, ◌≤◌, drop}
use Rattle.fancy_index.proofs.Words.{bools_in, true_count}
use Rattle.fancy_index.proofs.bools.count_blocks.Given as goal

abbrev pub invariant-loop-from : goal.invariant-loop-from
invariant-loop-from l = record {
  low : l.from ≤ l.bools.run.count;
  counted : l.many + true_count (drop l.from (bools_in l.bools)) ≡ true_count (bools_in l.bools);
}

abbrev pub decreases-loop-from : goal.decreases-loop-from
decreases-loop-from l = l.bools.run.count - l.from
