use Rattle.std.proofs.Common.{◌≡◌, ◌++◌, length, drop}
use Rattle.npy_format.proofs.Words.{AreInOrder, limits_from}
use Rattle.npy_format.proofs.items.limits.Given as goal

-- the limits so far, followed by those of the remaining leaves, are all limits
abbrev pub invariant-loop-leaf : goal.invariant-loop-leaf
invariant-loop-leaf l = record {
  rest : l.limits.items ++ limits_from (length l.limits.items) (drop l.leaf-index l.leaves) l.bytes ≡ limits_from 0 l.leaves l.bytes;
  order : AreInOrder (length l.limits.items) (drop l.leaf-index l.leaves) l.bytes;
}
