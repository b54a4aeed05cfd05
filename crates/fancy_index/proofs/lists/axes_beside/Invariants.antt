use Rattle.std.proofs.Common.{◌≡◌, ◌+◌, drop}
use Rattle.fancy_index.proofs.Words.{array_axes_taken, index_items}
use Rattle.fancy_index.proofs.lists.axes_beside.Given as goal

abbrev pub invariant-loop-item : goal.invariant-loop-item
invariant-loop-item l = l.left + array_axes_taken (index_items l.items) ≡ l.axes + array_axes_taken (index_items (drop l.item-index l.items))
