use Rattle.shape_strides.proofs.AdvanceLaws.{StandsAt}
use Rattle.shape_strides.proofs.walk.advance.Given as goal

abbrev pub invariant-loop-axis : goal.invariant-loop-axis
invariant-loop-axis l = StandsAt l.lengths l.strides l.start l.initial.index l.index l.axis l.offset

abbrev pub decreases-loop-axis : goal.decreases-loop-axis
decreases-loop-axis l = l.axis
