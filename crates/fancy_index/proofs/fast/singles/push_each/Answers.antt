use Rattle.std.proofs.Common.{◌++◌, length, map, ap, ◌∙◌, arith}
use Rattle.fancy_index.proofs.Words.{drop_all, item_at, moved_offset}
use Rattle.fancy_index.proofs.Passes.{pushed_all}
use Rattle.fancy_index.proofs.SingleLaws.{push_one, pushed_one}
use Rattle.fancy_index.proofs.fast.singles.push_each.Goals as goal

pub push_item-requires : goal.push_item-requires
push_item-requires c =
    let rows = c.args.rows in
    let can = push_one rows.inner.now.offset rows.place rows.shifts.now c.loop-shift.shift-index c.moved-from.result c.loop-shift-test.true c.moved-from.ensures.value _ c.args.source.width c.args.source.block.now _ _ c.loop-shift.invariant in
    record { inside = omega (arith, can.0, ap length c.bytes-bytes.ensures); room = omega (arith, can.1) }

pub loop-shift-preserved : goal.loop-shift-preserved
loop-shift-preserved c =
    let rows = c.args.rows in
    pushed_one rows.inner.now.offset rows.place rows.shifts.now c.loop-shift.shift-index c.moved-from.result c.loop-shift-test.true c.moved-from.ensures.value _ c.args.source.width c.args.source.block.now _ _ c.push_item.new.items
    (c.push_item.ensures.bytes ∙ ap (λ b. c.loop-shift.items.0 ++ item_at c.moved-from.result c.args.source.width b) c.bytes-bytes.ensures) c.push_item.ensures.left c.loop-shift.invariant

pub returns : goal.returns
returns c =
    let rows = c.args.rows in
    pushed_all _ _ _ _ _ _ (ap (map (moved_offset rows.inner.now.offset rows.place)) (drop_all c.loop-shift.shift-index rows.shifts.now (omega (arith, c.loop-shift-test.false)))) c.loop-shift.invariant
