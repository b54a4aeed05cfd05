use Rattle.std.proofs.Common.{◌≡◌, ◌+◌, ◌++◌, ℕ, List, length, map, take, All}
use Rattle.fancy_index.proofs.Words.{flat_map, item_size, offsets, run_offsets, number_from, LiesIn, ArePlaces}
use Rattle.fancy_index.proofs.positions.put_runs.Given as goal

abbrev pub invariant-loop-run : goal.invariant-loop-run
invariant-loop-run g l = record {
  lies : All (LiesIn l.named.array.block.now (item_size l.named.array.descr.now)) l.run-iterator;
  room : l.at + length (flat_map run_offsets l.run-iterator) ≡ length l.places;
  read : (done : List ℕ) × (offsets l.named.array.layout.now ≡ done ++ flat_map run_offsets l.run-iterator)
      × ArePlaces l.named.n (map (number_from l.named.array.descr.now l.named.array.block.now) done) l.are (take l.at l.places);
}
