use Rattle.std.proofs.Common.{◌≡◌, ◌*◌, ◌<◌, ◌≤◌, ◌++◌, drop}
use Rattle.shape_strides.proofs.Words.{max_bytes, count, f_strides}
use Rattle.shape_strides.proofs.steps.f_order_strides.Given as goal

abbrev pub invariant-loop-len : goal.invariant-loop-len
invariant-loop-len l = record {
  some : 0 < count (drop l.len-index l.lengths);
  small : count (drop l.len-index l.lengths) * l.step ≤ max_bytes;
  rest : l.strides ++ f_strides l.step (drop l.len-index l.lengths) ≡ f_strides l.item l.lengths;
}
