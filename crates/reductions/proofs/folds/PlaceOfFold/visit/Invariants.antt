use Rattle.std.proofs.Common.{◌-◌, ◌≤◌, nat_eq, not}
use Rattle.reductions.proofs.SoughtLaws.{AreSought}
use Rattle.reductions.proofs.folds.PlaceOfFold.visit.Given as goal

-- the first numbers are visited
abbrev pub invariant-loop-done : goal.invariant-loop-done
invariant-loop-done g l = record {
  fits : l.done ≤ l.side.run.count;
  sought : AreSought (not (nat_eq g.row.GREATEST 0)) (g.S.Number.scalar g.O.Ordered.order) l.side l.seen (g.S.Number.value l.initial.held.best) l.initial.held.place l.done (g.S.Number.value l.sought.best) l.sought.place;
}

abbrev pub decreases-loop-done : goal.decreases-loop-done
decreases-loop-done g l = l.side.run.count - l.done
