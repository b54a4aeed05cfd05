use Rattle.std.proofs.Common.{◌≤◌, length, All}
use Rattle.fancy_index.proofs.Words.{max_items, items_left}
use Rattle.fancy_index.proofs.PartLaws.{HaveParts}
use Rattle.fancy_index.proofs.index_parts.parts_of.Given as goal

abbrev pub invariant-loop-item : goal.invariant-loop-item
invariant-loop-item l = record {
  small : All (λ n. n ≤ max_items) l.left.axes.now;
  have : HaveParts l.fn.left.axes.now (items_left l.fn.left) l.parts.items l.left.axes.now (items_left l.left);
}

abbrev pub decreases-loop-item : goal.decreases-loop-item
decreases-loop-item l = length l.left.items.now
