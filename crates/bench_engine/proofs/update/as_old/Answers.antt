use Rattle.std.proofs.Common.{refl, sym, ◌∙◌}
use Rattle.bench_engine.proofs.Words.{map-map, item_from, cast_item, length-offsets, offsets}
use Rattle.bench_engine.proofs.Assigns.{kept-items}
use Rattle.bench_engine.proofs.OperandLaws.{own-inside}
use Rattle.bench_engine.proofs.Updates.{cast-changed}
use Rattle.bench_engine.proofs.update.as_old.Goals as goal

pub returns-then-keeps_items : goal.returns-then-keeps_items
returns-then-keeps_items c =
    let o = c.args.new in
    let alike = c.if-keeps_items.ensures.alike refl in (
      record { alike = alike; count = length-offsets o.layout },
      kept-items o.descr c.args.descr.now o.block (offsets o.layout) alike (c.if-keeps_items.ensures.items refl) (own-inside o)
          ∙ sym (map-map (cast_item o.descr c.args.descr.now) (item_from o.descr o.block) (offsets o.layout)),
    )

pub returns : goal.returns
returns c =
    let e = c.cast.ensures in
    let i = c.items.ensures in
    cast-changed c.args.new c.args.descr.now c.cast.result c.requires.can c.requires.few e.descr (rw i.layout at e.shape) (rw (i.block, i.layout, i.descr) at e.items) (rw (i.layout, i.descr) at e.refused)
