use Rattle.reductions.proofs.Words.{numbers_at, TakesIn, run_offsets}
use Rattle.reductions.proofs.LineLaws.{front}
use Rattle.reductions.proofs.folds.Fold.visit.Given as goal

-- the first numbers are visited
abbrev pub invariant-loop-k : goal.invariant-loop-k
invariant-loop-k g l = TakesIn g.Self.Fold.holds l.initial.held l.seen (numbers_at (g.S.Number.scalar g.O.Ordered.order) l.side.bytes.now (run_offsets (front l.k l.side.run))) l.held
