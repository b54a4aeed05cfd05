use Rattle.std.proofs.Common.{◌≡◌, length, drop}
use Rattle.fancy_index.proofs.Words.{offsets, shifted_all, shifted_offsets, end_of, put_packed}
use Rattle.fancy_index.proofs.Passes.{Scattering}
use Rattle.fancy_index.proofs.gather_scatter.scatter_shifts.Given as goal

abbrev pub invariant-loop-shift : goal.invariant-loop-shift
invariant-loop-shift l = record {
  pass : Scattering (shifted_all l.rows.inner.now.offset (drop l.shift-index l.rows.shifts.now) (offsets l.rows.inner.now) l.rows.place) l.at l.source.width (end_of l.source (length (shifted_offsets l.rows))) l.source.items.now l.block (put_packed (shifted_offsets l.rows) l.source l.fn.block);
  len : length l.block ≡ length l.fn.block;
}
