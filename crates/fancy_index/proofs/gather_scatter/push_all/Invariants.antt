use Rattle.std.proofs.Common.{All}
use Rattle.fancy_index.proofs.Words.{offsets, offsets_from, moved_all, AreStarts}
use Rattle.fancy_index.proofs.Passes.{Pushing}
use Rattle.fancy_index.proofs.gather_scatter.push_all.Given as goal

abbrev pub invariant-loop-place : goal.invariant-loop-place
invariant-loop-place l = record {
  starts : All (AreStarts l.axes.inner.offset (offsets l.axes.inner) l.axes.shifts.items) l.place-iterator;
  pass : Pushing (offsets_from l.axes) (moved_all l.axes.inner.offset l.place-iterator l.axes.shifts.items (offsets l.axes.inner)) l.source.width l.source.block.now l.fn.items l.items;
}
