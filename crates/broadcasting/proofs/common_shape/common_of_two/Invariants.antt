use Rattle.std.proofs.Common.{◌≡◌, ◌++◌, drop}
use Rattle.broadcasting.proofs.Words.{aligned, all_go_together, common_lengths}
use Rattle.broadcasting.proofs.common_shape.common_of_two.Given as goal

abbrev pub invariant-loop-axis : goal.invariant-loop-axis
invariant-loop-axis l = record {
  together : all_go_together (drop l.axis (aligned l.rank l.left)) (drop l.axis (aligned l.rank l.right)) ≡ all_go_together (aligned l.rank l.left) (aligned l.rank l.right);
  lengths_are : l.lengths.items ++ common_lengths (drop l.axis (aligned l.rank l.left)) (drop l.axis (aligned l.rank l.right)) ≡ common_lengths (aligned l.rank l.left) (aligned l.rank l.right);
}
