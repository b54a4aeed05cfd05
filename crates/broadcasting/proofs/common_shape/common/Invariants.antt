use Rattle.broadcasting.proofs.CommonLaws.{IsCommonSoFar}
use Rattle.broadcasting.proofs.common_shape.common.Given as goal

abbrev pub invariant-loop-shape : goal.invariant-loop-shape
invariant-loop-shape l = IsCommonSoFar l.lengths.items l.shapes l.shape-index
