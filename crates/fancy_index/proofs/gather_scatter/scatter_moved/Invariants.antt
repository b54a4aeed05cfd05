use Rattle.std.proofs.Common.{◌≡◌, length}
use Rattle.fancy_index.proofs.Words.{moved_offsets, end_of, put_packed}
use Rattle.fancy_index.proofs.Passes.{RunsLeft, Scattering, moved_runs}
use Rattle.fancy_index.proofs.gather_scatter.scatter_moved.Given as goal

abbrev pub invariant-loop-run : goal.invariant-loop-run
invariant-loop-run l = record {
  left : RunsLeft l.target.layout.now.offset l.target.start l.run-iterator;
  pass : Scattering (moved_runs l.target.layout.now.offset l.target.start l.run-iterator) l.at l.source.width (end_of l.source (length (moved_offsets l.target))) l.source.items.now l.block (put_packed (moved_offsets l.target) l.source l.fn.block);
  len : length l.block ≡ length l.fn.block;
}
