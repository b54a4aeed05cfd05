use Rattle.std.proofs.Common.{◌≡◌, drop, map}
use Rattle.literal_items.proofs.Words.{leaf_value, put_leaves}
use Rattle.literal_items.proofs.literal_item.write_leaves.Given as goal

-- the remaining leaves complete the item
abbrev pub invariant-loop-leaf : goal.invariant-loop-leaf
invariant-loop-leaf l =
    put_leaves l.item (drop l.leaf-index l.leaves) (map (λ leaf. leaf_value leaf.scalar l.literal) (drop l.leaf-index l.leaves))
    ≡ put_leaves l.fn.item l.leaves (map (λ leaf. leaf_value leaf.scalar l.literal) l.leaves)
