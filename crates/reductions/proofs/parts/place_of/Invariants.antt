use Rattle.std.proofs.Common.{◌≡◌}
use Rattle.reductions.proofs.Words.{run_offsets, first_place, numbers_at}
use Rattle.reductions.proofs.LineLaws.{front}
use Rattle.reductions.proofs.parts.place_of.Given as goal

-- the number is not among the first ones
abbrev pub invariant-loop-k : goal.invariant-loop-k
invariant-loop-k g l = first_place (g.S.Number.value l.fn.number) (numbers_at (g.S.Number.scalar g.O.Ordered.order) l.side.bytes.now (run_offsets (front l.k l.side.run))) ≡ l.k
