use Rattle.std.proofs.Common.{◌≡◌}
use Rattle.raw_block.proofs.Words.{swapped}
use Rattle.raw_block.proofs.strided.swap_each.Given as goal

abbrev pub invariant-loop-k : goal.invariant-loop-k
invariant-loop-k l = l.bytes ≡ swapped l.a.at l.a.step l.b.at l.b.step l.width l.k l.initial.bytes
