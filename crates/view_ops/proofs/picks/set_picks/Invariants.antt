use Rattle.view_ops.proofs.PickLaws.{HavePicked}
use Rattle.view_ops.proofs.picks.set_picks.Given as goal

abbrev pub invariant-loop-k : goal.invariant-loop-k
invariant-loop-k g l = HavePicked l.lengths l.items l.made.items l.k l.axis
