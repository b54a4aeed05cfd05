use Rattle.std.proofs.Common.{◌≡◌, ◌*◌, ◌<◌, ◌≤◌, ◌++◌, drop}
use Rattle.shape_strides.proofs.Words.{max_bytes, count, c_strides}
use Rattle.shape_strides.proofs.steps.c_order_strides.Given as goal

abbrev pub invariant-loop-len : goal.invariant-loop-len
invariant-loop-len l = record {
  some : 0 < l.bytes;
  small : l.bytes ≤ max_bytes;
  is : l.bytes ≡ count (drop l.len-index l.lengths) * l.item;
  rest : l.strides ++ c_strides l.item (drop l.len-index l.lengths) ≡ c_strides l.item l.lengths;
}
