use Rattle.std.proofs.Common.{◌≡◌}
use Rattle.elementwise.proofs.Words.{item_in, leaf_cast, with_leaves}
use Rattle.elementwise.proofs.kernels.leaf_casts.put_each.Given as goal

abbrev pub invariant-loop-k : goal.invariant-loop-k
invariant-loop-k g l = l.bytes ≡ with_leaves (λ k. leaf_cast (g.S.Number.scalar g.P.Ordered.order) (g.T.Number.scalar g.Q.Ordered.order) (item_in l.fn.from k)) l.at l.row l.k l.initial.bytes
