use Rattle.std.proofs.Common.{◌≡◌, ◌<◌, ◌≤◌, ◌++◌, drop}
use Rattle.reshape_rule.proofs.Words.{count, offsets, printed_strides}
use Rattle.reshape_rule.proofs.without_copy.unit_strides.Given as goal

abbrev pub invariant-loop-len : goal.invariant-loop-len
invariant-loop-len l = record {
  some : 0 < l.items;
  low : l.items ≤ count l.layout.shape;
  items : l.items ≡ count (drop l.len-index l.lengths);
  made : l.strides ++ printed_strides (drop l.len-index l.lengths) (offsets l.layout) ≡ printed_strides l.lengths (offsets l.layout);
}
