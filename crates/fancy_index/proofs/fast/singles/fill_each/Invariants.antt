use Rattle.std.proofs.Common.{◌≡◌, length, map, drop}
use Rattle.fancy_index.proofs.Words.{put_each, moved_offset}
use Rattle.fancy_index.proofs.Passes.{Filling}
use Rattle.fancy_index.proofs.fast.singles.fill_each.Given as goal

abbrev pub invariant-loop-shift : goal.invariant-loop-shift
invariant-loop-shift l = record {
  pass : Filling (map (moved_offset l.rows.inner.now.offset l.rows.place) (drop l.shift-index l.rows.shifts.now)) l.item l.block (put_each (map (moved_offset l.rows.inner.now.offset l.rows.place) l.rows.shifts.now) l.item l.fn.block);
  len : length l.block ≡ length l.fn.block;
}
