use Rattle.std.proofs.Common.{◌≡◌}
use Rattle.raw_block.proofs.Words.{swapped}
use Rattle.raw_block.proofs.strided.swap_each_apart.Given as goal

abbrev pub invariant-loop-k : goal.invariant-loop-k
invariant-loop-k g l = l.bytes ≡ swapped l.a.at l.a.step l.b.at l.b.step g.row.N l.k l.initial.bytes
