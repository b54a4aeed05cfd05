use Rattle.std.proofs.Common.{◌≡◌, ◌+◌, ◌-◌, ◌≤◌, ◌++◌, length, take, drop}
use Rattle.fancy_index.proofs.Words.{true_ranks, bools_in}
use Rattle.fancy_index.proofs.fast.adjacent_bools.note_all.Given as goal

abbrev pub invariant-loop-k : goal.invariant-loop-k
invariant-loop-k l = record {
  size : length l.found ≡ 512;
  from : l.from ≤ l.k;
  low : l.k ≤ l.end;
  rank : l.rank ≡ l.bools.rank + l.k;
  noted : take (l.k - l.from) l.found ++ true_ranks (l.bools.rank + l.k) (drop l.k (bools_in l.bools)) ≡ true_ranks (l.bools.rank + l.from) (drop l.from (bools_in l.bools));
}
