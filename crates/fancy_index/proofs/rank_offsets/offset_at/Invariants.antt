use Rattle.std.proofs.Common.{◌≡◌, ◌≤◌, length}
use Rattle.fancy_index.proofs.Words.{IsAtRun}
use Rattle.fancy_index.proofs.rank_offsets.offset_at.Given as goal

abbrev pub invariant-loop-at : goal.invariant-loop-at
invariant-loop-at l = record {
  at : IsAtRun l.at;
  layout : l.at.layout.now ≡ l.fn.at.layout.now;
  from : l.at.first ≤ l.rank;
}

abbrev pub decreases-loop-at : goal.decreases-loop-at
decreases-loop-at l = length l.at.later
