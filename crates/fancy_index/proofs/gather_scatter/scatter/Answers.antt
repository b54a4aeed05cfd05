use Rattle.std.proofs.Common.{◌∙◌}
use Rattle.fancy_index.proofs.Words.{All-rest, offsets, moved_all, AreStarts, shifted_offsets}
use Rattle.fancy_index.proofs.Passes.{scatter_front, scattered_front, split-places}
use Rattle.fancy_index.proofs.gather_scatter.scatter.Goals as goal

pub scatter_shifts-at-requires : goal.scatter_shifts-at-requires
scatter_shifts-at-requires c =
    let axes = c.args.axes.now in
    let split = split-places axes.inner.offset (offsets axes.inner) axes.shifts.items _ _ _ _ c.in-Some-place.ensures.steps c.rows.ensures in
    scatter_front _ (shifted_offsets c.rows.result) (moved_all axes.inner.offset c.next.new.self axes.shifts.items (offsets axes.inner)) c.loop-place.at c.args.source.width _ c.args.source.items.now c.loop-place.block _ split c.loop-place.invariant.pass

pub loop-place-preserved : goal.loop-place-preserved
loop-place-preserved c =
    let axes = c.args.axes.now in
    let split = split-places axes.inner.offset (offsets axes.inner) axes.shifts.items _ _ _ _ c.in-Some-place.ensures.steps c.rows.ensures in
    record {
      starts = All-rest (AreStarts axes.inner.offset (offsets axes.inner) axes.shifts.items) _ _ _ c.in-Some-place.ensures.steps c.loop-place.invariant.starts;
      pass = scattered_front _ (shifted_offsets c.rows.result) (moved_all axes.inner.offset c.next.new.self axes.shifts.items (offsets axes.inner)) c.loop-place.at c.scatter_shifts-at.result c.args.source.width _ c.args.source.items.now c.loop-place.block c.scatter_shifts-at.new.block _ split c.scatter_shifts-at.ensures.written c.scatter_shifts-at.ensures.len c.scatter_shifts-at.ensures.end c.loop-place.invariant.pass;
      len = c.scatter_shifts-at.ensures.len ∙ c.loop-place.invariant.len;
    }
