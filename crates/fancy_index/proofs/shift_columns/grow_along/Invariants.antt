use Rattle.std.proofs.Common.{◌≡◌, ◌≤◌, [], ◌∷◌, All, get_or, drop, length}
use Rattle.fancy_index.proofs.Words.{flat_map, LieWithin, max_bytes, offsets, run_offsets, HaveGrownFrom}
use Rattle.fancy_index.proofs.shift_columns.grow_along.Given as goal

abbrev pub invariant-loop-run : goal.invariant-loop-run
invariant-loop-run l = record {
  lie : All (λ run. LieWithin (run.count ∷ []) (run.step ∷ []) run.offset max_bytes 1) l.run-iterator;
  low : l.at ≤ length (offsets l.places);
  left : flat_map run_offsets l.run-iterator ≡ drop l.at (offsets l.places);
  grown : HaveGrownFrom 0 l.start (λ k. get_or l.numbers (get_or (offsets l.places) k 0) 0) l.fn.shifts l.shifts l.at;
}
