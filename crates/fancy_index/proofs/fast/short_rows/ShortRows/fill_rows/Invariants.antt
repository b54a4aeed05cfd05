use Rattle.std.proofs.Common.{◌≡◌, length}
use Rattle.fancy_index.proofs.Words.{put_each, short_offsets}
use Rattle.fancy_index.proofs.Passes.{Filling}
use Rattle.fancy_index.proofs.ShortLaws.{rows_from}
use Rattle.fancy_index.proofs.fast.short_rows.ShortRows.fill_rows.Given as goal

abbrev pub invariant-loop-k : goal.invariant-loop-k
invariant-loop-k l = record {
  pass : Filling (rows_from l.self l.k) l.item l.block (put_each (short_offsets l.self) l.item l.fn.block);
  len : length l.block ≡ length l.fn.block;
}
