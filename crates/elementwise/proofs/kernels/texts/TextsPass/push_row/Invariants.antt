use Rattle.std.proofs.Common.{not, ◌==◌}
use Rattle.elementwise.proofs.Words.{text_said, AreMadeTo}
use Rattle.elementwise.proofs.kernels.texts.TextsPass.push_row.Given as goal

abbrev pub invariant-loop-k : goal.invariant-loop-k
invariant-loop-k g l = AreMadeTo l.k (text_said (not (g.row.BELOW == 0)) (not (g.row.ABOVE == 0)) (not (g.row.HOLDS == 0))) 1 l.fn.pairs l.fn.block l.block
