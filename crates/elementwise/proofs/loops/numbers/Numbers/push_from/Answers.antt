use Rattle.std.proofs.Common.{◌++◌, ap, ◌∙◌, arith, add-mul}
use Rattle.elementwise.proofs.Words.{number, encode, number_pair, made_of}
use Rattle.elementwise.proofs.AddedLaws.{one-more, room-for}
use Rattle.elementwise.proofs.loops.numbers.Numbers.push_from.Goals as goal

pub push-requires : goal.push-requires
push-requires g c = room-for g.T.Number.WIDTH _ c.loop-k.k _ _ c.loop-k-test.true c.requires.room c.loop-k.invariant.left

pub loop-k-preserved : goal.loop-k-preserved
loop-k-preserved g c =
    let k = c.loop-k.k in
    let width = g.T.Number.WIDTH in
    let to = g.T.Number.scalar g.Q.Ordered.order in
    let made = made_of (number_pair (g.A.Number.scalar g.O.Ordered.order) (g.B.Number.scalar g.O.Ordered.order) to g.K.Kernel.makes) c.args.pairs in
    let is = ap (λ z. encode to (number z)) (c.make.ensures ∙ λ i. g.K.Kernel.makes (c.number-left.ensures i) (c.number-right.ensures i)) in
    record {
      made = λ old begun. one-more made width k old c.loop-k.block _ (c.loop-k.invariant.made old begun) (record { bytes = c.push.ensures.bytes ∙ ap (λ l. c.loop-k.block.0 ++ l) is; left = c.push.ensures.left });
      left = let parts = add-mul k 1 width in omega (arith, parts, c.push.ensures.left, c.loop-k.invariant.left);
      low = omega (arith, c.loop-k.invariant.low);
    }
