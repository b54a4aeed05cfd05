use Rattle.std.proofs.Common.{◌≡◌, length, All}
use Rattle.fancy_index.proofs.Words.{offsets, offsets_from, moved_all, AreStarts, end_of, put_packed}
use Rattle.fancy_index.proofs.Passes.{Scattering}
use Rattle.fancy_index.proofs.gather_scatter.scatter.Given as goal

abbrev pub invariant-loop-place : goal.invariant-loop-place
invariant-loop-place l = record {
  starts : All (AreStarts l.axes.inner.offset (offsets l.axes.inner) l.axes.shifts.items) l.place-iterator;
  pass : Scattering (moved_all l.axes.inner.offset l.place-iterator l.axes.shifts.items (offsets l.axes.inner)) l.at l.source.width (end_of l.source (length (offsets_from l.axes))) l.source.items.now l.block (put_packed (offsets_from l.axes) l.source l.fn.block);
  len : length l.block ≡ length l.fn.block;
}
