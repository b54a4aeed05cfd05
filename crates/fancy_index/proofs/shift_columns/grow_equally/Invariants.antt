use Rattle.std.proofs.Common.{◌+◌}
use Rattle.fancy_index.proofs.Words.{HaveGrownFrom}
use Rattle.fancy_index.proofs.shift_columns.grow_equally.Given as goal

abbrev pub invariant-loop-k : goal.invariant-loop-k
invariant-loop-k l = HaveGrownFrom l.at l.start (λ _. l.offset) l.fn.shifts l.shifts (l.at + l.k)
