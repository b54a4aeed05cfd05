use Rattle.std.proofs.Common.{◌≡◌, ◌+◌, ◌*◌, suc, ◌∙◌, arith}
use Rattle.elementwise.proofs.Words.{item_in, leaf_cast, put, with_leaves}
use Rattle.elementwise.proofs.kernels.leaf_casts.put_each.Goals as goal

pub loop-k-preserved : goal.loop-k-preserved
loop-k-preserved g c =
    let cast = leaf_cast (g.S.Number.scalar g.P.Ordered.order) (g.T.Number.scalar g.Q.Ordered.order) in
    let k = c.loop-k.k in
    let next : suc k ≡ k + 1 = omega arith in
    c.put_one.ensures
    ∙ (λ i. put (c.args.at + k * c.args.row) (cast (c.item.ensures i)) (c.loop-k.invariant i))
    ∙ λ i. with_leaves (λ k. cast (item_in c.args.from k)) c.args.at c.args.row (next i) c.args.bytes.now
