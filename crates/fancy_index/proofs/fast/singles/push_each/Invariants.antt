use Rattle.std.proofs.Common.{map, drop}
use Rattle.fancy_index.proofs.Words.{moved_offset, first_offsets}
use Rattle.fancy_index.proofs.Passes.{Pushing}
use Rattle.fancy_index.proofs.fast.singles.push_each.Given as goal

abbrev pub invariant-loop-shift : goal.invariant-loop-shift
invariant-loop-shift l = Pushing (first_offsets l.rows) (map (moved_offset l.rows.inner.now.offset l.rows.place) (drop l.shift-index l.rows.shifts.now)) l.source.width l.source.block.now l.fn.items l.items
