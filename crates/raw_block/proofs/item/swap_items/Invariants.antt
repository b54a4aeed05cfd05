use Rattle.std.proofs.Common.{◌≡◌}
use Rattle.raw_block.proofs.Words.{exchanged}
use Rattle.raw_block.proofs.item.swap_items.Given as goal

abbrev pub invariant-loop-i : goal.invariant-loop-i
invariant-loop-i l = l.bytes ≡ exchanged l.a l.b l.i l.initial.bytes
