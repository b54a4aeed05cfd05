use Rattle.std.proofs.Common.{◌∙◌, map, drop, ◌+◌}
use Rattle.fancy_index.proofs.Words.{offsets, moved_offset, shifted_all}
use Rattle.fancy_index.proofs.Passes.{scatter_front, scattered_front, split-shifts}
use Rattle.fancy_index.proofs.gather_scatter.scatter_shifts.Goals as goal

pub scatter_moved-at-requires : goal.scatter_moved-at-requires
scatter_moved-at-requires c =
    let base = c.args.rows.inner.now.offset in
    let inner = offsets c.args.rows.inner.now in
    let split = split-shifts base inner c.args.rows.place c.args.rows.shifts.now c.loop-shift.shift-index c.moved-start.result c.loop-shift-test.true c.moved-start.ensures.value in
    scatter_front _ (map (moved_offset base c.moved-start.result) inner) (shifted_all base (drop (c.loop-shift.shift-index + 1) c.args.rows.shifts.now) inner c.args.rows.place) c.loop-shift.at c.args.source.width _ c.args.source.items.now c.loop-shift.block _ split c.loop-shift.invariant.pass

pub loop-shift-preserved : goal.loop-shift-preserved
loop-shift-preserved c =
    let base = c.args.rows.inner.now.offset in
    let inner = offsets c.args.rows.inner.now in
    let split = split-shifts base inner c.args.rows.place c.args.rows.shifts.now c.loop-shift.shift-index c.moved-start.result c.loop-shift-test.true c.moved-start.ensures.value in
    record {
      pass = scattered_front _ (map (moved_offset base c.moved-start.result) inner) (shifted_all base (drop (c.loop-shift.shift-index + 1) c.args.rows.shifts.now) inner c.args.rows.place) c.loop-shift.at c.scatter_moved-at.result c.args.source.width _ c.args.source.items.now c.loop-shift.block c.scatter_moved-at.new.block _ split c.scatter_moved-at.ensures.written c.scatter_moved-at.ensures.len c.scatter_moved-at.ensures.end c.loop-shift.invariant.pass;
      len = c.scatter_moved-at.ensures.len ∙ c.loop-shift.invariant.len;
    }
