use Rattle.std.proofs.Common.{◌≡◌, drop}
use Rattle.broadcasting.proofs.Words.{aligned, all_stretch}
use Rattle.broadcasting.proofs.stretching.can_stretch.Given as goal

abbrev pub invariant-loop-axis : goal.invariant-loop-axis
invariant-loop-axis l = all_stretch (drop l.axis (aligned l.rank l.lengths)) (drop l.axis l.target) ≡ all_stretch (aligned l.rank l.lengths) l.target
