use Rattle.std.proofs.Common.{not, ◌==◌}
use Rattle.elementwise.proofs.Words.{Little, binary, division_op, number_pair, AreMadeTo}
use Rattle.elementwise.proofs.fast.byte_divisions.push_divided_bytes.Given as goal

abbrev pub invariant-loop-k : goal.invariant-loop-k
invariant-loop-k g l =
    let scalar = g.N.Number.scalar g.O.Ordered.order in
    let to = g.N.Number.scalar Little in
    AreMadeTo l.k (number_pair scalar scalar to (binary (division_op (not (g.row.LEAVES == 0))) to)) g.N.Number.WIDTH l.fn.pairs l.fn.block l.block
