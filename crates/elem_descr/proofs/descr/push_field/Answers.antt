use Rattle.std.proofs.Common.{add-one, append_assoc, arith, rules}
use Rattle.elem_descr.proofs.FieldLaws.{leaf_moved}
use Rattle.elem_descr.proofs.descr.push_field.Goals as goal

pub loop-k-preserved : goal.loop-k-preserved
loop-k-preserved c =
    let more = leaf_moved c.args.field.now.at _ c.loop-k.k _ _ (omega arith) c.leaf_at-scalar.ensures.leaf in
    rw (add-one c.loop-k.k) (search (rules, more, c.loop-k.invariant, c.in_ok-push.ensures.items, append_assoc))
