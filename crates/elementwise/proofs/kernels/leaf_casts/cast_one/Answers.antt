use Rattle.std.proofs.Common.{sym, ap, ◌∙◌}
use Rattle.elementwise.proofs.Words.{number, decode, encode, wrap, number_of}
use Rattle.elementwise.proofs.LeafLaws.{cast_number}
use Rattle.elementwise.proofs.kernels.leaf_casts.cast_one.Goals as goal

pub returns : goal.returns
returns g c =
    let from = g.S.Number.scalar g.P.Ordered.order in
    let to = g.T.Number.scalar g.Q.Ordered.order in
    let wrapped = c.of_bits.ensures g.Q.Ordered.order (g.S.Number.value c.read.result) c.bits.ensures.lowest in
    c.write.ensures.bytes
    ∙ ap (λ z. encode to (number z)) wrapped
    ∙ ap (encode to) (sym (cast_number to (decode from c.args.item.now) (g.met.T.Number.is_number g.Q.Ordered.order) ∙ ap (λ value. number (wrap to (number_of value))) c.read.ensures))
