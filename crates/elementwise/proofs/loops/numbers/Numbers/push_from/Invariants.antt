use Rattle.std.proofs.Common.{◌≡◌, ◌+◌, ◌*◌, ◌≤◌, ℕ, List}
use Rattle.elementwise.proofs.Words.{number_pair, AreMadeTo}
use Rattle.elementwise.proofs.loops.numbers.Numbers.push_from.Given as goal

abbrev pub invariant-loop-k : goal.invariant-loop-k
invariant-loop-k g l =
    let f = number_pair (g.A.Number.scalar g.O.Ordered.order) (g.B.Number.scalar g.O.Ordered.order) (g.T.Number.scalar g.Q.Ordered.order) g.K.Kernel.makes in
    let width = g.T.Number.WIDTH in
    record {
      made : (old : List ℕ × ℕ) → AreMadeTo l.from f width l.pairs old l.fn.block → AreMadeTo l.k f width l.pairs old l.block;
      left : l.k * width + l.block.1 ≡ l.from * width + l.fn.block.1;
      low : l.from ≤ l.k;
    }
