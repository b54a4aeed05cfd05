use Rattle.std.proofs.Common.{refl, sym, ◌∙◌, map, arith}
use Rattle.elementwise.proofs.Words.{mul-le-mul_left, map-map, item_from, count, offsets, cast_item}
use Rattle.elementwise.proofs.TypedLaws.{kept}
use Rattle.elementwise.proofs.held.Held.of.Goals as goal

pub returns-then-keeps_items-clause-items : goal.returns-then-keeps_items-clause-items
returns-then-keeps_items-clause-items c =
    let from = c.args.from in
    sym (kept from.descr.now c.args.to.now from.block.now (offsets from.layout.now) from.inside (c.if-keeps_items.ensures.items refl))
    ∙ sym (map-map (cast_item from.descr.now c.args.to.now) (item_from from.descr.now from.block.now) (offsets from.layout.now))

pub cast_items-requires-clause-few : goal.cast_items-requires-clause-few
cast_items-requires-clause-few c = omega (arith, mul-le-mul_left (count c.args.from.layout.now.shape) c.requires.small, c.items-items.ensures.value, c.items-items.ensures.limit)

pub returns-clause-items : goal.returns-clause-items
returns-clause-items c =
    let from = c.args.from in
    let made = c.in_ok-made.made in
    (λ i. map (item_from (c.in_ok-made.ensures.descr_is i) made.block) (offsets made.layout))
    ∙ c.in_ok-made.ensures.items
    ∙ sym (map-map (cast_item from.descr.now c.args.to.now) (item_from from.descr.now from.block.now) (offsets from.layout.now))
