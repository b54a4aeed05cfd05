use Rattle.std.proofs.Common.{drop}
use Rattle.fancy_index.proofs.Words.{offsets, shifted_all, shifted_offsets}
use Rattle.fancy_index.proofs.Passes.{Pushing}
use Rattle.fancy_index.proofs.gather_scatter.push_shifted.Given as goal

abbrev pub invariant-loop-shift : goal.invariant-loop-shift
invariant-loop-shift l = Pushing (shifted_offsets l.rows) (shifted_all l.rows.inner.now.offset (drop l.shift-index l.rows.shifts.now) (offsets l.rows.inner.now) l.rows.place) l.source.width l.source.block.now l.fn.items l.items
