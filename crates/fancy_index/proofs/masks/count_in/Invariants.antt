use Rattle.std.proofs.Common.{◌≡◌, ◌+◌, map, All}
use Rattle.fancy_index.proofs.Words.{flat_map, item_size, offsets, run_offsets, bool_at, true_count, LiesIn}
use Rattle.fancy_index.proofs.masks.count_in.Given as goal

abbrev pub invariant-loop-run : goal.invariant-loop-run
invariant-loop-run l = record {
  lies : All (LiesIn l.mask.block.now (item_size l.mask.descr.now)) l.run-iterator;
  counted : l.many + true_count (map (bool_at l.mask.block.now) (flat_map run_offsets l.run-iterator)) ≡ true_count (map (bool_at l.mask.block.now) (offsets l.mask.layout.now));
}
