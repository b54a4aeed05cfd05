use Rattle.std.proofs.Common.{◌≡◌, ◌++◌, drop}
use Rattle.view_ops.proofs.Words.{flat_map, first_of}
use Rattle.view_ops.proofs.picks.first_index.Given as goal

abbrev pub invariant-loop-pick : goal.invariant-loop-pick
invariant-loop-pick l = l.index.items ++ flat_map first_of (drop l.pick-index l.picks) ≡ flat_map first_of l.picks
