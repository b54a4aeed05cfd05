use Rattle.std.proofs.Common.{◌≡◌, ◌-◌, ◌≤◌, length, map, drop}
use Rattle.fancy_index.proofs.Words.{moved_offset, first_offsets, end_of, put_packed}
use Rattle.fancy_index.proofs.Passes.{Scattering}
use Rattle.fancy_index.proofs.fast.singles.scatter_singles.Given as goal

abbrev pub invariant-loop-from : goal.invariant-loop-from
invariant-loop-from l = record {
  low : l.from ≤ length l.rows.shifts.now;
  pass : Scattering (map (moved_offset l.rows.inner.now.offset l.rows.place) (drop l.from l.rows.shifts.now)) l.at l.source.width (end_of l.source (length (first_offsets l.rows))) l.source.items.now l.block (put_packed (first_offsets l.rows) l.source l.fn.block);
  len : length l.block ≡ length l.fn.block;
}

abbrev pub decreases-loop-from : goal.decreases-loop-from
decreases-loop-from l = length l.rows.shifts.now - l.from
