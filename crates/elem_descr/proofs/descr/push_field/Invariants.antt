use Rattle.std.proofs.Common.{◌≡◌, ◌++◌, map, take}
use Rattle.elem_descr.proofs.Words.{leaves_of, moved_leaf}
use Rattle.elem_descr.proofs.descr.push_field.Given as goal

-- the leaves so far are appended
abbrev pub invariant-loop-k : goal.invariant-loop-k
invariant-loop-k l = l.leaves.items ≡ l.fn.leaves.items ++ map (moved_leaf l.field.at) (take l.k (leaves_of l.field.descr))
