use Rattle.std.proofs.Common.{◌*◌, length, refl, sym, ap, subst, ◌∙◌, arith}
use Rattle.raw_block.proofs.Words.{EachWithin, copied, traded}
use Rattle.raw_block.proofs.Trades.{rest_within, traded-more}
use Rattle.raw_block.proofs.strided.trade_fours.Goals as goal

pub trade_four-requires-clause-a : goal.trade_four-requires-clause-a
trade_four-requires-clause-a g c =
    let each = subst (λ len. EachWithin len c.args.a.at c.args.a.step g.row.N c.args.n) (sym c.loop-k.auto.bytes) c.requires.a in
    rw c.after-to.ensures.0 (rw c.after-to.ensures.1 (rest_within (length c.loop-k.bytes) c.args.a.at c.args.a.step g.row.N c.args.n (c.loop-k.k * 4) each 4 (omega arith)))

pub trade_four-requires-clause-b : goal.trade_four-requires-clause-b
trade_four-requires-clause-b g c =
    let each = subst (λ len. EachWithin len c.args.b.at c.args.b.step g.row.N c.args.n) (sym c.loop-k.auto.other) c.requires.b in
    rw c.after-from.ensures.0 (rw c.after-from.ensures.1 (rest_within (length c.loop-k.other) c.args.b.at c.args.b.step g.row.N c.args.n (c.loop-k.k * 4) each 4 (omega arith)))

pub loop-k-preserved : goal.loop-k-preserved
loop-k-preserved g c =
    let a = c.args.a in let b = c.args.b in let N = g.row.N in let xs = c.loop-k.bytes in let ys = c.loop-k.other in
    let in_a = subst (λ len. EachWithin len a.at a.step N c.args.n) (sym c.loop-k.auto.bytes) c.requires.a in
    let in_b = subst (λ len. EachWithin len b.at b.step N c.args.n) (sym c.loop-k.auto.other) c.requires.b in
    let to = c.after-to.ensures in let from = c.after-from.ensures in
    let more = traded-more a.at a.step b.at b.step N (c.loop-k.k * 4) c.args.n c.args.bytes.now c.args.other.now xs ys in_a in_b (c.if-not-are_apart.ensures refl) (c.if-not-are_apart-2.ensures refl) c.loop-k.invariant 4 (omega arith) in
    (λ i. (c.trade_four.ensures.bytes i, c.trade_four.ensures.other i))
    ∙ (λ i. (copied (to.0 i) (to.1 i) ys (from.0 i) (from.1 i) N 4 xs, copied (from.0 i) (from.1 i) xs (to.0 i) (to.1 i) N 4 ys))
    ∙ sym more ∙ ap (λ m. traded a.at a.step b.at b.step N m c.args.bytes.now c.args.other.now) (omega arith)
