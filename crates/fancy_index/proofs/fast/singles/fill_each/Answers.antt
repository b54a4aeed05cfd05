use Rattle.std.proofs.Common.{◌∙◌}
use Rattle.fancy_index.proofs.SingleLaws.{fill_one, filled_one}
use Rattle.fancy_index.proofs.fast.singles.fill_each.Goals as goal

pub put-requires : goal.put-requires
put-requires c =
    fill_one c.args.rows.inner.now.offset c.args.rows.place c.args.rows.shifts.now c.loop-shift.shift-index c.moved.result c.loop-shift-test.true c.moved.ensures.value c.args.item.now c.loop-shift.block _ c.loop-shift.invariant.pass

pub loop-shift-preserved : goal.loop-shift-preserved
loop-shift-preserved c = record {
  pass = filled_one c.args.rows.inner.now.offset c.args.rows.place c.args.rows.shifts.now c.loop-shift.shift-index c.moved.result c.loop-shift-test.true c.moved.ensures.value c.args.item.now c.loop-shift.block c.put.new.self _ c.put.ensures.written c.put.ensures.len c.loop-shift.invariant.pass;
  len = c.put.ensures.len ∙ c.loop-shift.invariant.len;
}
