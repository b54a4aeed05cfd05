use Rattle.std.proofs.Common.{Some, length, sym, ap, ◌∙◌}
use Rattle.name_store.proofs.Words.{offsets, with_items, target_offsets, Target}
use Rattle.name_store.proofs.RewriteLaws.{lent-paired, lent-parts}
use Rattle.name_store.proofs.write.Writer.copy_over.Goals as goal

pub overwrite-requires-clause-paired : goal.overwrite-requires-clause-paired
overwrite-requires-clause-paired c =
    lent-paired _ _ c.args.block.now _ _ _ (rw c.in-Buffer.is at c.requires.are) (Some c.in-Some.slot) _ c.in-Some.is _ (rw c.in-View.is at c.requires.inside) (ap (λ (t : Target). length (target_offsets t)) (sym c.in-View.is))

pub returns-in-Some-clause-put : goal.returns-in-Some-clause-put
returns-in-Some-clause-put c =
    let parts = lent-parts _ c.args.self.now.width c.args.block.now _ _ _ (rw c.in-Buffer.is at c.requires.are) (Some c.in-Some.slot) _ c.in-Some.is in
    rw (c.in-View.is, c.in-Buffer.is) (c.in_ok-block-in-Buffer.ensures.written ∙ ap (λ ps. with_items (offsets c.in-View.to) ps c.args.block.now) parts, tt)
