use Rattle.std.proofs.Common.{◌≡◌}
use Rattle.raw_block.proofs.Words.{traded}
use Rattle.raw_block.proofs.strided.trade_arrays.Given as goal

abbrev pub invariant-loop-k : goal.invariant-loop-k
invariant-loop-k g l = (l.bytes, l.other) ≡ traded l.a.at l.a.step l.b.at l.b.step g.row.N l.k l.fn.bytes l.fn.other
