use Rattle.reductions.proofs.Words.{run_offsets, lines, AddsReduced}
use Rattle.reductions.proofs.LineLaws.{front}
use Rattle.reductions.proofs.fast.push_held.Given as goal

-- the results of the first lines are appended
abbrev pub invariant-loop-j : goal.invariant-loop-j
invariant-loop-j g l = AddsReduced g.F.Fold.reduction (g.S.Number.scalar g.O.Ordered.order) l.lines.starts.bytes.now g.F.Total.Number.WIDTH (lines l.lines.axis (run_offsets (front l.j l.lines.starts.run))) l.fn.block l.block
