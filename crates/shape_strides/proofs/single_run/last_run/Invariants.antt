use Rattle.shape_strides.specs.inside.LastRuns.{AreJoinedFrom}
use Rattle.shape_strides.proofs.single_run.last_run.Given as goal

-- The axes from `axis` on join to one.
abbrev pub invariant-loop-axis : goal.invariant-loop-axis
invariant-loop-axis l = AreJoinedFrom l.strides l.lengths l.axis l.along
