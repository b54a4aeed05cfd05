use Rattle.fancy_index.specs.inside.Kept.{moved_offsets}
use Rattle.fancy_index.proofs.Passes.{RunsLeft, Pushing, moved_runs}
use Rattle.fancy_index.proofs.gather_scatter.push_moved.Given as goal

abbrev pub invariant-loop-run : goal.invariant-loop-run
invariant-loop-run l = record {
  left : RunsLeft l.places.layout.now.offset l.places.start l.run-iterator;
  pass : Pushing (moved_offsets l.places) (moved_runs l.places.layout.now.offset l.places.start l.run-iterator) l.source.width l.source.block.now l.fn.items l.items;
}
