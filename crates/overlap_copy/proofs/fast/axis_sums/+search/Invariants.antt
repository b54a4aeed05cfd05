use Rattle.std.proofs.Common.{length}
use Rattle.overlap_copy.proofs.SearchLaws.{NoneBelow}
use Rattle.overlap_copy.proofs.fast.axis_sums.+search.Given as goal

abbrev pub decreases-search : goal.decreases-search
decreases-search l = length l.axes.now

abbrev pub invariant-loop-k : goal.invariant-loop-k
invariant-loop-k l = NoneBelow l.first l.rest l.low l.high l.k
