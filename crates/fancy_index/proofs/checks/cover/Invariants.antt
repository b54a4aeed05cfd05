use Rattle.std.proofs.Common.{◌≡◌, length}
use Rattle.fancy_index.proofs.Words.{cover, items_left}
use Rattle.fancy_index.proofs.checks.cover.Given as goal

abbrev pub invariant-loop-item : goal.invariant-loop-item
invariant-loop-item l = cover l.left.axes.now (items_left l.left) ≡ cover l.fn.left.axes.now (items_left l.fn.left)

abbrev pub decreases-loop-item : goal.decreases-loop-item
decreases-loop-item l = length l.left.items.now
