use Rattle.overlap_copy.proofs.MarkLaws.{Widens}
use Rattle.overlap_copy.proofs.share.widen.Given as goal

abbrev pub invariant-loop-at : goal.invariant-loop-at
invariant-loop-at l = Widens l.fn.marks l.marks l.width l.at l.left
