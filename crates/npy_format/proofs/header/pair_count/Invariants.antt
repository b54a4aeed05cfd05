use Rattle.std.proofs.Common.{◌+◌, ◌≤◌, List, length}
use Rattle.npy_format.proofs.Words.{Pair, tokens, HasPairs}
use Rattle.npy_format.proofs.HeaderLaws.{PairsLeft}
use Rattle.npy_format.proofs.header.pair_count.Given as goal

-- the pairs so far are counted
abbrev pub invariant-loop-rest : goal.invariant-loop-rest
invariant-loop-rest l = record {
  counted : (pairs : List Pair) → HasPairs (tokens l.pairs) pairs → PairsLeft pairs l.count (tokens l.rest);
  few : l.count + length (tokens l.rest) ≤ length l.pairs;
}

abbrev pub decreases-loop-rest : goal.decreases-loop-rest
decreases-loop-rest l = length (tokens l.rest)
