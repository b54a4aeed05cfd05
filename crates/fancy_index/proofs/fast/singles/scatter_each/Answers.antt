use Rattle.std.proofs.Common.{length, ap, ◌∙◌, arith}
use Rattle.fancy_index.proofs.Words.{item_at, put}
use Rattle.fancy_index.proofs.SingleLaws.{scatter_one, scattered_one}
use Rattle.fancy_index.proofs.fast.singles.scatter_each.Goals as goal

pub put_item-requires-clause-to : goal.put_item-requires-clause-to
put_item-requires-clause-to c =
    (scatter_one c.args.rows.inner.now.offset c.args.rows.place c.args.rows.shifts.now c.loop-shift.shift-index c.moved-to.result c.loop-shift-test.true c.moved-to.ensures.value c.loop-shift.from c.args.source.width _ c.args.source.items.now c.loop-shift.block _ c.loop-shift.invariant.pass).inside

pub put_item-requires-clause-from : goal.put_item-requires-clause-from
put_item-requires-clause-from c =
    let can = scatter_one c.args.rows.inner.now.offset c.args.rows.place c.args.rows.shifts.now c.loop-shift.shift-index c.moved-to.result c.loop-shift-test.true c.moved-to.ensures.value c.loop-shift.from c.args.source.width _ c.args.source.items.now c.loop-shift.block _ c.loop-shift.invariant.pass in
    omega (arith, can.room, ap length c.bytes-bytes.ensures)

pub overflow_add-from : goal.overflow_add-from
overflow_add-from c =
    let can = scatter_one c.args.rows.inner.now.offset c.args.rows.place c.args.rows.shifts.now c.loop-shift.shift-index c.moved-to.result c.loop-shift-test.true c.moved-to.ensures.value c.loop-shift.from c.args.source.width _ c.args.source.items.now c.loop-shift.block _ c.loop-shift.invariant.pass in
    record { fits = omega (arith, can.room, c.len-len.ensures.len, c.len-len.ensures.small) }

pub loop-shift-preserved : goal.loop-shift-preserved
loop-shift-preserved c = record {
  pass = scattered_one c.args.rows.inner.now.offset c.args.rows.place c.args.rows.shifts.now c.loop-shift.shift-index c.moved-to.result c.loop-shift-test.true c.moved-to.ensures.value c.loop-shift.from c.args.source.width _ c.args.source.items.now c.loop-shift.block c.put_item.new.block _ (c.put_item.ensures.written ∙ ap (λ b. put c.moved-to.result (item_at c.loop-shift.from c.args.source.width b) c.loop-shift.block) c.bytes-bytes.ensures) c.put_item.ensures.len c.loop-shift.invariant.pass;
  len = c.put_item.ensures.len ∙ c.loop-shift.invariant.len;
}
