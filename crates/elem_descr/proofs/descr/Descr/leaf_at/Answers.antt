use Rattle.std.proofs.Common.{◌<◌, length, ap, arith}
use Rattle.elem_descr.proofs.Words.{Descr, item_size, leaves_of, leaf_within}
use Rattle.elem_descr.proofs.FieldLaws.{leaf_begins}
use Rattle.elem_descr.proofs.descr.Descr.leaf_at.Goals as goal

pub returns-in-Record-clause-within : goal.returns-in-Record-clause-within
returns-in-Record-clause-within c =
    let seen = ap (λ (d : Descr). length (leaves_of d)) c.in-Record.is in
    let below : c.args.k < length c.leaves.result.now = omega (arith, seen, ap length c.leaves.ensures.value, c.requires) in
    let ends = leaf_within 0 _ _ c.args.k c.index-leaves-k.result c.leaves.ensures.in_order below c.index-leaves-k.is in
    omega (arith, ap item_size c.in-Record.is, ends)

pub returns-in-Record-clause-small : goal.returns-in-Record-clause-small
returns-in-Record-clause-small c =
    let seen = ap (λ (d : Descr). length (leaves_of d)) c.in-Record.is in
    let below : c.args.k < length c.leaves.result.now = omega (arith, seen, ap length c.leaves.ensures.value, c.requires) in
    let begins = leaf_begins 0 _ _ c.args.k c.index-leaves-k.result c.leaves.ensures.in_order below c.index-leaves-k.is in
    omega (arith, begins, c.leaves.ensures.small)
