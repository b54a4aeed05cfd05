use Rattle.std.proofs.Common.{Some, None, refl, sym, ap, ◌∙◌}
use Rattle.name_store.proofs.Words.{IfOk-weaker, with_items, put_each, target_offsets, Source, with_source}
use Rattle.name_store.proofs.RewriteLaws.{owned-within, lent-fits, lent-paired, lent-parts}
use Rattle.name_store.proofs.SlotLaws.{slot_at-get_or}
use Rattle.name_store.proofs.SourceLaws.{put_each-items}
use Rattle.name_store.proofs.write.Writer.copy_items.Goals as goal

pub copy_to-requires : goal.copy_to-requires
copy_to-requires c =
    let are = rw c.in-Block.is at c.requires.are in
    record { to_in = c.requires.inside; from_in = owned-within c.in-Block.owned c.args.self.now.width are.0; count = are.1 }

pub copy_to-requires-in-Some : goal.copy_to-requires-in-Some
copy_to-requires-in-Some c = lent-paired _ _ c.args.block.now _ _ _ (rw c.in-Buffer.is at c.requires.are) (Some c.in-Some.slot) _ c.in-Some.is _ c.requires.inside refl

pub move_to-requires-clause-from : goal.move_to-requires-clause-from
move_to-requires-clause-from c = lent-fits _ _ c.args.block.now _ _ _ (rw c.in-Buffer.is at c.requires.are) None _ c.in-None.is

pub returns-in-None-clause-put : goal.returns-in-None-clause-put
returns-in-None-clause-put c =
    let parts = lent-parts _ c.args.self.now.width c.args.block.now _ _ _ (rw c.in-Buffer.is at c.requires.are) None _ c.in-None.is in
    rw c.in-Buffer.is (
      IfOk-weaker c.move_to.result _ _ (λ _ bytes. bytes ∙ ap (λ ps. with_items (target_offsets c.args.self.now.target) ps c.args.block.now) parts) c.move_to.ensures.bytes,
      c.move_to.ensures.kept,
    )

pub returns-in-None-clause-no_memory : goal.returns-in-None-clause-no_memory
returns-in-None-clause-no_memory c = λ needs.
    let are = rw c.in-Buffer.is at c.requires.are in
    c.move_to.ensures.in_place ((rw c.in-Buffer.is at needs) (sym (slot_at-get_or c.args.self.now.others.now c.in-Buffer.number _ are.0) ∙ c.in-None.is))

pub returns-in-One-clause-put : goal.returns-in-One-clause-put
returns-in-One-clause-put c =
    let os = target_offsets c.args.self.now.target in (
      c.fill.ensures.bytes
          ∙ (λ i. put_each os (c.as_slice.ensures i) c.args.block.now)
          ∙ put_each-items os c.in-One.item.items c.args.block.now
          ∙ ap (λ (s : Source). with_source c.args.self.now.others.now c.args.self.now.width c.args.self.now.target s c.args.block.now) (sym c.in-One.is),
      tt,
    )

pub returns-in-Some-clause-put : goal.returns-in-Some-clause-put
returns-in-Some-clause-put c =
    let parts = lent-parts _ c.args.self.now.width c.args.block.now _ _ _ (rw c.in-Buffer.is at c.requires.are) (Some c.in-Some.slot) _ c.in-Some.is in
    rw c.in-Buffer.is (c.copy_to-in-Some.ensures.written ∙ ap (λ ps. with_items (target_offsets c.args.self.now.target) ps c.args.block.now) parts, tt)
