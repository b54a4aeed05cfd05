use Rattle.std.proofs.Common.{◌≡◌, ◌++◌, take, drop}
use Rattle.fancy_index.proofs.Words.{offsets, led, IsAtRun}
use Rattle.fancy_index.proofs.rank_offsets.walk_to_offsets.Given as goal

abbrev pub invariant-loop-rank : goal.invariant-loop-rank
invariant-loop-rank l = record {
  at : IsAtRun l.at;
  layout : l.at.layout.now ≡ l.layout;
  led : l.ranks ≡ led (offsets l.layout) (take l.rank-index l.fn.ranks) ++ drop l.rank-index l.fn.ranks;
}
