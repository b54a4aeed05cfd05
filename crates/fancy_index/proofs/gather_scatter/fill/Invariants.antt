use Rattle.std.proofs.Common.{◌≡◌, length, All}
use Rattle.fancy_index.proofs.Words.{offsets, put_each, offsets_from, moved_all, AreStarts}
use Rattle.fancy_index.proofs.Passes.{Filling}
use Rattle.fancy_index.proofs.gather_scatter.fill.Given as goal

abbrev pub invariant-loop-place : goal.invariant-loop-place
invariant-loop-place l = record {
  starts : All (AreStarts l.axes.inner.offset (offsets l.axes.inner) l.axes.shifts.items) l.place-iterator;
  pass : Filling (moved_all l.axes.inner.offset l.place-iterator l.axes.shifts.items (offsets l.axes.inner)) l.item l.block (put_each (offsets_from l.axes) l.item l.fn.block);
  len : length l.block ≡ length l.fn.block;
}
