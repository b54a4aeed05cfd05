use Rattle.std.proofs.Common.{◌+◌}
use Rattle.fancy_index.proofs.Words.{HaveGrownFrom, number_along}
use Rattle.fancy_index.proofs.shift_columns.grow_each.Given as goal

abbrev pub invariant-loop-k : goal.invariant-loop-k
invariant-loop-k l = HaveGrownFrom l.at l.start (number_along l.offsets l.places l.at) l.fn.shifts l.shifts (l.at + l.k)
