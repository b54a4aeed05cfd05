use Rattle.std.proofs.Common.{◌≡◌, length, map, drop}
use Rattle.fancy_index.proofs.Words.{moved_offset, first_offsets, end_of, put_packed}
use Rattle.fancy_index.proofs.Passes.{Scattering}
use Rattle.fancy_index.proofs.fast.singles.scatter_each.Given as goal

abbrev pub invariant-loop-shift : goal.invariant-loop-shift
invariant-loop-shift l = record {
  pass : Scattering (map (moved_offset l.rows.inner.now.offset l.rows.place) (drop l.shift-index l.rows.shifts.now)) l.from l.source.width (end_of l.source (length (first_offsets l.rows))) l.source.items.now l.block (put_packed (first_offsets l.rows) l.source l.fn.block);
  len : length l.block ≡ length l.fn.block;
}
