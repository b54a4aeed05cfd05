use Rattle.reductions.specs.inside.Lines.{AreHeld}
use Rattle.reductions.proofs.fast.held_by_rows.Given as goal

-- the first rows are visited
abbrev pub invariant-loop-k : goal.invariant-loop-k
invariant-loop-k g l = AreHeld g.F.Fold.holds (g.S.Number.scalar g.O.Ordered.order) l.lines l.k l.held.items
