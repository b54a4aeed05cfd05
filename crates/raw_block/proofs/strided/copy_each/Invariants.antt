use Rattle.std.proofs.Common.{◌≡◌}
use Rattle.raw_block.proofs.Words.{copied}
use Rattle.raw_block.proofs.strided.copy_each.Given as goal

abbrev pub invariant-loop-k : goal.invariant-loop-k
invariant-loop-k l = l.bytes ≡ copied l.to.at l.to.step l.other l.from.steps.at l.from.steps.step l.from.width l.k l.initial.bytes
