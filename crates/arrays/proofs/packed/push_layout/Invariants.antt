use Rattle.std.proofs.Common.{◌≡◌, ◌+◌, ◌*◌, ◌++◌, length, All}
use Rattle.arrays.proofs.Words.{EachWithin, offsets, all_offsets, joined_at}
use Rattle.arrays.proofs.packed.push_layout.Given as goal

abbrev pub invariant-loop-run : goal.invariant-loop-run
invariant-loop-run l = record {
  bytes : l.items.0 ++ joined_at (all_offsets l.run-iterator) l.width l.block ≡ l.fn.items.0 ++ joined_at (offsets l.layout) l.width l.block;
  left : length (offsets l.layout) * l.width + l.items.1 ≡ l.fn.items.1 + length (all_offsets l.run-iterator) * l.width;
  from : All (λ run. EachWithin (length l.block) run.offset run.step l.width run.count) l.run-iterator;
}
