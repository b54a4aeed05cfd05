use Rattle.std.proofs.Common.{◌≡◌, length}
use Rattle.fancy_index.proofs.Words.{short_offsets, end_of, put_packed}
use Rattle.fancy_index.proofs.Passes.{Scattering}
use Rattle.fancy_index.proofs.ShortLaws.{rows_from}
use Rattle.fancy_index.proofs.fast.short_rows.ShortRows.scatter_rows.Given as goal

abbrev pub invariant-loop-k : goal.invariant-loop-k
invariant-loop-k l = record {
  pass : Scattering (rows_from l.self l.k) l.at l.source.width (end_of l.source (length (short_offsets l.self))) l.source.items.now l.block (put_packed (short_offsets l.self) l.source l.fn.block);
  len : length l.block ≡ length l.fn.block;
}
