use Rattle.std.proofs.Common.{◌≡◌, ◌+◌, ◌-◌, ◌≤◌, ◌++◌, drop}
use Rattle.fancy_index.proofs.Words.{true_ranks, bools_in}
use Rattle.fancy_index.proofs.masks.push_true.Given as goal

abbrev pub invariant-loop-from : goal.invariant-loop-from
invariant-loop-from l = record {
  low : l.from ≤ l.bools.run.count;
  added : l.ranks.items ++ true_ranks (l.bools.rank + l.from) (drop l.from (bools_in l.bools)) ≡ l.fn.ranks.items ++ true_ranks l.bools.rank (bools_in l.bools);
}

abbrev pub decreases-loop-from : goal.decreases-loop-from
decreases-loop-from l = l.bools.run.count - l.from
