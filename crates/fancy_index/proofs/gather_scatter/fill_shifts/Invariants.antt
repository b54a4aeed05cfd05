use Rattle.std.proofs.Common.{◌≡◌, length, drop}
use Rattle.fancy_index.proofs.Words.{offsets, put_each, shifted_all}
use Rattle.fancy_index.proofs.Passes.{Filling}
use Rattle.fancy_index.proofs.gather_scatter.fill_shifts.Given as goal

abbrev pub invariant-loop-shift : goal.invariant-loop-shift
invariant-loop-shift l = record {
  pass : Filling (shifted_all l.rows.inner.now.offset (drop l.shift-index l.rows.shifts.now) (offsets l.rows.inner.now) l.rows.place) l.item l.block (put_each (shifted_all l.rows.inner.now.offset l.rows.shifts.now (offsets l.rows.inner.now) l.rows.place) l.item l.fn.block);
  len : length l.block ≡ length l.fn.block;
}
