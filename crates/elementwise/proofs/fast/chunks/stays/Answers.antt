use Rattle.std.proofs.Common.{sym, ◌∙◌}
use Rattle.elementwise.proofs.Words.{map-map, item_from, offsets, cast_item}
use Rattle.elementwise.proofs.TypedLaws.{kept}
use Rattle.elementwise.proofs.fast.chunks.stays.Goals as goal

pub returns-then-eq-clause-items : goal.returns-then-eq-clause-items
returns-then-eq-clause-items c is =
    let from = c.args.from in
    sym (kept from.descr.now c.args.to.now from.block.now (offsets from.layout.now) from.inside (c.keeps_items.ensures.items is))
    ∙ sym (map-map (cast_item from.descr.now c.args.to.now) (item_from from.descr.now from.block.now) (offsets from.layout.now))
