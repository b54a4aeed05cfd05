use Rattle.std.proofs.Common.{◌≡◌, ◌++◌, take, drop}
use Rattle.fancy_index.proofs.Words.{run_offsets, led}
use Rattle.fancy_index.proofs.fast.single_run.run_to_offsets.Given as goal

abbrev pub invariant-loop-rank : goal.invariant-loop-rank
invariant-loop-rank l = l.ranks ≡ led (run_offsets l.run) (take l.rank-index l.fn.ranks) ++ drop l.rank-index l.fn.ranks
