use Rattle.std.proofs.Common.{◌++◌, cond, pos, ap, ◌∙◌, not, ◌==◌}
use Rattle.elementwise.proofs.Words.{BoolScalar, number, encode, said, text_said, made_of}
use Rattle.elementwise.proofs.AddedLaws.{one-more}
use Rattle.elementwise.proofs.kernels.texts.TextsPass.push_row.Goals as goal

pub loop-k-preserved : goal.loop-k-preserved
loop-k-preserved g c =
    let k = c.loop-k.k in
    let below = not (g.row.BELOW == 0) in
    let above = not (g.row.ABOVE == 0) in
    let holds = not (g.row.HOLDS == 0) in
    let made = made_of (text_said below above holds) c.args.pairs in
    let order = c.order-below.ensures in
    let is = ap (λ b. encode BoolScalar (number (cond b (pos 1) (pos 0)))) c.is_said-holds.ensures ∙ (λ i. encode BoolScalar (number (cond (said below above holds (order.0 i) (order.1 i)) (pos 1) (pos 0)))) ∙ λ i. text_said below above holds (c.item.ensures i) (c.item-in-loop-k.ensures i) in
    one-more made 1 k c.args.block c.loop-k.block _ c.loop-k.invariant (record { bytes = c.push.ensures.bytes ∙ ap (λ l. c.loop-k.block.0 ++ l) is; left = c.push.ensures.left })
