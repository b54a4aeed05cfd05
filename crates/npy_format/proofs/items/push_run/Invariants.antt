use Rattle.std.proofs.Common.{◌≡◌, ◌++◌}
use Rattle.npy_format.proofs.Words.{run_offsets, gathered}
use Rattle.npy_format.proofs.items.push_run.Given as goal

-- the items so far are appended
abbrev pub invariant-loop-k : goal.invariant-loop-k
invariant-loop-k l = l.file.items ≡ l.fn.file.items ++ gathered l.width l.bytes (run_offsets (record { offset = l.fn.run.offset; count = l.k; step = l.fn.run.step }))
