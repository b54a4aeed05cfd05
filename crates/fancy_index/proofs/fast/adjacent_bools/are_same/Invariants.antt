use Rattle.std.proofs.Common.{◌≡◌, ◌<◌, ◌≤◌, ℕ, get_or, IsTrue}
use Rattle.fancy_index.proofs.fast.adjacent_bools.are_same.Given as goal

abbrev pub invariant-loop-k : goal.invariant-loop-k
invariant-loop-k l = record {
  from : l.from ≤ l.k;
  same : IsTrue l.same → (j : ℕ) → l.from ≤ j → j < l.k → get_or l.bytes j 0 ≡ get_or l.bytes l.from 0;
}
