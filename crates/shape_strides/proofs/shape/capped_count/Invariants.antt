use Rattle.std.proofs.Common.{◌≡◌, ◌+◌, ◌*◌, ◌≤◌, min, drop}
use Rattle.shape_strides.proofs.Words.{max_items, count}
use Rattle.shape_strides.proofs.shape.capped_count.Given as goal

abbrev pub invariant-loop-len : goal.invariant-loop-len
invariant-loop-len l = record {
  small : l.items ≤ max_items + 1;
  rest : min (l.items * count (drop l.len-index l.lengths)) (max_items + 1) ≡ min (count l.lengths) (max_items + 1);
}
