use Rattle.std.proofs.Common.{◌≡◌}
use Rattle.raw_block.proofs.Words.{filled}
use Rattle.raw_block.proofs.strided.fill_each.Given as goal

abbrev pub invariant-loop-k : goal.invariant-loop-k
invariant-loop-k l = l.bytes ≡ filled l.to.at l.to.step l.item l.k l.initial.bytes
