use Rattle.std.proofs.Common.{◌≡◌, ◌+◌, ◌*◌, ◌≤◌, [], ◌∷◌, ◌++◌, length, All}
use Rattle.arrays.proofs.Words.{EachWithin, LieWithin, offsets, max_bytes, all_offsets, joined_at, rows_of}
use Rattle.arrays.proofs.packed.push_grids.Given as goal

abbrev pub invariant-loop-run : goal.invariant-loop-run
invariant-loop-run g l = record {
  bytes : l.items.0 ++ joined_at (all_offsets (rows_of l.along l.run-iterator)) g.row.N l.block ≡ l.fn.items.0 ++ joined_at (offsets l.layout) g.row.N l.block;
  left : length (offsets l.layout) * g.row.N + l.items.1 ≡ l.fn.items.1 + length (all_offsets (rows_of l.along l.run-iterator)) * g.row.N;
  from : All (λ run. EachWithin (length l.block) run.offset run.step g.row.N run.count) (rows_of l.along l.run-iterator);
  begin : All (λ run. LieWithin (run.count ∷ []) (run.step ∷ []) run.offset max_bytes 1) l.run-iterator;
  some : All (λ run. 1 ≤ run.count) l.run-iterator;
}
