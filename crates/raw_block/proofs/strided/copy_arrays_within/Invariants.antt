use Rattle.std.proofs.Common.{◌≡◌}
use Rattle.raw_block.proofs.Words.{copied_within}
use Rattle.raw_block.proofs.strided.copy_arrays_within.Given as goal

abbrev pub invariant-loop-k : goal.invariant-loop-k
invariant-loop-k g l = l.bytes ≡ copied_within l.to.at l.to.step l.from.at l.from.step g.row.N l.k l.initial.bytes
