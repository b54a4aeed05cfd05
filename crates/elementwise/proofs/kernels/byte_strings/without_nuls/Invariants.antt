use Rattle.std.proofs.Common.{◌≡◌, ◌≤◌, length, take}
use Rattle.elementwise.proofs.Words.{without_nuls}
use Rattle.elementwise.proofs.kernels.byte_strings.without_nuls.Given as goal

abbrev pub invariant-loop-len : goal.invariant-loop-len
invariant-loop-len l = record {
  few : l.len ≤ length l.item;
  same : without_nuls (take l.len l.item) ≡ without_nuls l.item;
}

abbrev pub decreases-loop-len : goal.decreases-loop-len
decreases-loop-len l = l.len
