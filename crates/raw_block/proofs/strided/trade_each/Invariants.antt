use Rattle.std.proofs.Common.{◌≡◌}
use Rattle.raw_block.proofs.Words.{traded}
use Rattle.raw_block.proofs.strided.trade_each.Given as goal

abbrev pub invariant-loop-k : goal.invariant-loop-k
invariant-loop-k l = (l.bytes, l.other) ≡ traded l.a.at l.a.step l.b.steps.at l.b.steps.step l.b.width l.k l.initial.bytes l.initial.other
