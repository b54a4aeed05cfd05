use Rattle.std.proofs.Common.{◌-◌, ◌≤◌}
use Rattle.reductions.proofs.Words.{numbers_at, TakesIn, run_offsets}
use Rattle.reductions.proofs.LineLaws.{front}
use Rattle.reductions.proofs.fast.fold_blocks.Given as goal

-- the first numbers are visited
abbrev pub invariant-loop-done : goal.invariant-loop-done
invariant-loop-done g l = record {
  fits : l.done ≤ l.side.run.count;
  takes : TakesIn g.F.Fold.holds l.initial.held l.seen (numbers_at (g.S.Number.scalar g.O.Ordered.order) l.side.bytes.now (run_offsets (front l.done l.side.run))) l.held;
}

abbrev pub decreases-loop-done : goal.decreases-loop-done
decreases-loop-done g l = l.side.run.count - l.done
