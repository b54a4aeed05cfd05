use Rattle.std.proofs.Common.{◌-◌, ◌≤◌, length, map, drop}
use Rattle.fancy_index.proofs.Words.{moved_offset, first_offsets}
use Rattle.fancy_index.proofs.Passes.{Pushing}
use Rattle.fancy_index.proofs.fast.singles.push_singles.Given as goal

abbrev pub invariant-loop-from : goal.invariant-loop-from
invariant-loop-from l = record {
  low : l.from ≤ length l.rows.shifts.now;
  pass : Pushing (first_offsets l.rows) (map (moved_offset l.rows.inner.now.offset l.rows.place) (drop l.from l.rows.shifts.now)) l.source.width l.source.block.now l.fn.items l.items;
}

abbrev pub decreases-loop-from : goal.decreases-loop-from
decreases-loop-from l = length l.rows.shifts.now - l.from
