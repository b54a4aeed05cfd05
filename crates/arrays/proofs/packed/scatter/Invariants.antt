use Rattle.std.proofs.Common.{◌≡◌, ◌+◌, ◌*◌, ◌≤◌, length, All}
use Rattle.arrays.proofs.Words.{EachWithin, offsets, multiples, all_offsets, assigned, row_offsets}
use Rattle.arrays.proofs.packed.scatter.Given as goal

abbrev pub invariant-loop-run : goal.invariant-loop-run
invariant-loop-run l = record {
  rest : assigned (all_offsets l.run-iterator) (row_offsets l.at l.width (length (all_offsets l.run-iterator))) l.width l.items l.block ≡ assigned (offsets l.layout) (multiples l.width (length (offsets l.layout))) l.width l.items l.fn.block;
  len : length l.block ≡ length l.fn.block;
  room : l.at + length (all_offsets l.run-iterator) * l.width ≤ l.len;
  some : All (λ run. 1 ≤ run.count) l.run-iterator;
  to : All (λ run. EachWithin (length l.fn.block) run.offset run.step l.width run.count) l.run-iterator;
}
