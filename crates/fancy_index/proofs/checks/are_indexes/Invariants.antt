use Rattle.std.proofs.Common.{◌≡◌, drop}
use Rattle.fancy_index.proofs.Words.{list_all, is_index, index_items}
use Rattle.fancy_index.proofs.checks.are_indexes.Given as goal

abbrev pub invariant-loop-item : goal.invariant-loop-item
invariant-loop-item l = list_all is_index (index_items (drop l.item-index l.items)) ≡ list_all is_index (index_items l.items)
