use Rattle.shape_strides.proofs.RankLaws.{IsFound}
use Rattle.shape_strides.proofs.walk.index_at.Given as goal

abbrev pub invariant-loop-axis : goal.invariant-loop-axis
invariant-loop-axis l = IsFound l.lengths l.index l.at l.left l.axis

abbrev pub decreases-loop-axis : goal.decreases-loop-axis
decreases-loop-axis l = l.axis
