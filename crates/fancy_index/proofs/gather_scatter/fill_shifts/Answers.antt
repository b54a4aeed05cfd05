use Rattle.std.proofs.Common.{◌∙◌, ◌+◌, map, drop}
use Rattle.fancy_index.proofs.Words.{offsets, moved_offset, shifted_all}
use Rattle.fancy_index.proofs.Passes.{fill_front, filled_front, split-shifts}
use Rattle.fancy_index.proofs.gather_scatter.fill_shifts.Goals as goal

pub fill_moved-requires : goal.fill_moved-requires
fill_moved-requires c =
    let base = c.args.rows.inner.now.offset in
    let inner = offsets c.args.rows.inner.now in
    let split = split-shifts base inner c.args.rows.place c.args.rows.shifts.now c.loop-shift.shift-index c.moved-start.result c.loop-shift-test.true c.moved-start.ensures.value in
    fill_front _ (map (moved_offset base c.moved-start.result) inner) (shifted_all base (drop (c.loop-shift.shift-index + 1) c.args.rows.shifts.now) inner c.args.rows.place) c.args.item.now c.loop-shift.block _ split c.loop-shift.invariant.pass

pub loop-shift-preserved : goal.loop-shift-preserved
loop-shift-preserved c =
    let base = c.args.rows.inner.now.offset in
    let inner = offsets c.args.rows.inner.now in
    let split = split-shifts base inner c.args.rows.place c.args.rows.shifts.now c.loop-shift.shift-index c.moved-start.result c.loop-shift-test.true c.moved-start.ensures.value in
    record {
      pass = filled_front _ (map (moved_offset base c.moved-start.result) inner) (shifted_all base (drop (c.loop-shift.shift-index + 1) c.args.rows.shifts.now) inner c.args.rows.place) c.args.item.now c.loop-shift.block c.fill_moved.new.block _ split c.fill_moved.ensures.written c.fill_moved.ensures.len c.loop-shift.invariant.pass;
      len = c.fill_moved.ensures.len ∙ c.loop-shift.invariant.len;
    }
