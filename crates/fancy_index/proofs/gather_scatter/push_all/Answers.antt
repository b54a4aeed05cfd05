use Rattle.std.proofs.Common.{ap}
use Rattle.fancy_index.proofs.Words.{All-rest, offsets, moved_all, AreStarts}
use Rattle.fancy_index.proofs.Passes.{push_front, pushed_front, pushed_all, split-places}
use Rattle.fancy_index.proofs.gather_scatter.push_all.Goals as goal

pub push_shifted-items-requires : goal.push_shifted-items-requires
push_shifted-items-requires c =
    let axes = c.args.axes.now in
    let split = split-places axes.inner.offset (offsets axes.inner) axes.shifts.items _ _ _ _ c.in-Some-place.ensures.steps c.rows.ensures in
    push_front _ _ _ _ _ _ _ _ split c.loop-place.invariant.pass

pub loop-place-preserved : goal.loop-place-preserved
loop-place-preserved c =
    let axes = c.args.axes.now in
    let split = split-places axes.inner.offset (offsets axes.inner) axes.shifts.items _ _ _ _ c.in-Some-place.ensures.steps c.rows.ensures in
    record {
      starts = All-rest (AreStarts axes.inner.offset (offsets axes.inner) axes.shifts.items) _ _ _ c.in-Some-place.ensures.steps c.loop-place.invariant.starts;
      pass = pushed_front _ _ _ _ _ _ _ _ _ split c.push_shifted-items.ensures c.loop-place.invariant.pass;
    }

pub returns : goal.returns
returns c =
    pushed_all _ _ _ _ _ _ (ap (λ l. moved_all c.args.axes.now.inner.offset l c.args.axes.now.shifts.items (offsets c.args.axes.now.inner)) c.in-None.ensures.steps.0) c.loop-place.invariant.pass
