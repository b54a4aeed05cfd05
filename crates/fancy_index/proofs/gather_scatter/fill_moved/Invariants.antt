use Rattle.std.proofs.Common.{◌≡◌, length}
use Rattle.fancy_index.proofs.Words.{put_each, moved_offsets}
use Rattle.fancy_index.proofs.Passes.{RunsLeft, Filling, moved_runs}
use Rattle.fancy_index.proofs.gather_scatter.fill_moved.Given as goal

abbrev pub invariant-loop-run : goal.invariant-loop-run
invariant-loop-run l = record {
  left : RunsLeft l.target.layout.now.offset l.target.start l.run-iterator;
  pass : Filling (moved_runs l.target.layout.now.offset l.target.start l.run-iterator) l.item l.block (put_each (moved_offsets l.target) l.item l.fn.block);
  len : length l.block ≡ length l.fn.block;
}
