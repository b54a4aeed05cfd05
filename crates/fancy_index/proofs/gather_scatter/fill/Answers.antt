use Rattle.std.proofs.Common.{◌∙◌}
use Rattle.fancy_index.proofs.Words.{All-rest, offsets, moved_all, AreStarts, shifted_offsets}
use Rattle.fancy_index.proofs.Passes.{fill_front, filled_front, split-places}
use Rattle.fancy_index.proofs.gather_scatter.fill.Goals as goal

pub fill_shifts-requires : goal.fill_shifts-requires
fill_shifts-requires c =
    let axes = c.args.axes.now in
    let split = split-places axes.inner.offset (offsets axes.inner) axes.shifts.items _ _ _ _ c.in-Some-place.ensures.steps c.rows.ensures in
    fill_front _ (shifted_offsets c.rows.result) (moved_all axes.inner.offset c.next.new.self axes.shifts.items (offsets axes.inner)) c.args.item.now c.loop-place.block _ split c.loop-place.invariant.pass

pub loop-place-preserved : goal.loop-place-preserved
loop-place-preserved c =
    let axes = c.args.axes.now in
    let split = split-places axes.inner.offset (offsets axes.inner) axes.shifts.items _ _ _ _ c.in-Some-place.ensures.steps c.rows.ensures in
    record {
      starts = All-rest (AreStarts axes.inner.offset (offsets axes.inner) axes.shifts.items) _ _ _ c.in-Some-place.ensures.steps c.loop-place.invariant.starts;
      pass = filled_front _ (shifted_offsets c.rows.result) (moved_all axes.inner.offset c.next.new.self axes.shifts.items (offsets axes.inner)) c.args.item.now c.loop-place.block c.fill_shifts.new.block _ split c.fill_shifts.ensures.written c.fill_shifts.ensures.len c.loop-place.invariant.pass;
      len = c.fill_shifts.ensures.len ∙ c.loop-place.invariant.len;
    }
