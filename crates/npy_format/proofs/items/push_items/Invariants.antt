use Rattle.std.proofs.Common.{◌≡◌, ◌≤◌, ◌++◌, length, All}
use Rattle.npy_format.proofs.Words.{flat_map, EachWithin, offsets, run_offsets, gathered, addresses_in_file}
use Rattle.npy_format.proofs.items.push_items.Given as goal

-- what is appended so far, followed by what remains, is all that is to be appended
abbrev pub invariant-loop-run : goal.invariant-loop-run
invariant-loop-run l = record {
  rest : l.file.items ++ gathered l.width l.bytes (flat_map run_offsets l.run-iterator) ≡ l.fn.file.items ++ gathered l.width l.bytes (addresses_in_file l.width l.layout.shape (offsets l.layout));
  within : All (λ run. EachWithin (length l.bytes) run.offset run.step l.width run.count) l.run-iterator;
  some : All (λ run. 1 ≤ run.count) l.run-iterator;
}
