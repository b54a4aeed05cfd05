use Rattle.std.proofs.Common.{◌≡◌, map, take}
use Rattle.view_ops.proofs.Words.{picked_shape, pick_shown}
use Rattle.view_ops.proofs.picks.picked_lengths.Given as goal

abbrev pub invariant-loop-pick : goal.invariant-loop-pick
invariant-loop-pick l = l.lengths.items ≡ picked_shape (map pick_shown (take l.pick-index l.picks))
