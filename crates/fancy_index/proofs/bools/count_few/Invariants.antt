use Rattle.std.proofs.Common.{◌≡◌, ◌+◌, ◌≤◌, drop}
use Rattle.fancy_index.proofs.Words.{bools_in, true_count}
use Rattle.fancy_index.proofs.bools.count_few.Given as goal

abbrev pub invariant-loop-k : goal.invariant-loop-k
invariant-loop-k l = record {
  few : l.many + l.from ≤ l.k;
  low : l.k ≤ l.end;
  counted : l.many + true_count (drop l.k (bools_in l.bools)) ≡ true_count (drop l.from (bools_in l.bools));
}
