use Rattle.std.proofs.Common.{get_or}
use Rattle.fancy_index.proofs.Words.{HaveGrownFrom}
use Rattle.fancy_index.proofs.shift_columns.grow.Given as goal

abbrev pub invariant-loop-k : goal.invariant-loop-k
invariant-loop-k l = HaveGrownFrom 0 l.start (λ k. get_or l.offsets k 0) l.fn.shifts l.shifts l.k
