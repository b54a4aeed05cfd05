use Rattle.std.proofs.Common.{◌<◌, length, IfSome}
use Rattle.npy_files.proofs.Words.{IsFirstOf}
use Rattle.npy_files.proofs.mem_store.place_after.Given as goal

abbrev pub invariant-loop-place : goal.invariant-loop-place
invariant-loop-place l = record {
  best : IsFirstOf l.files l.after l.place l.best;
  below : IfSome l.best (λ place. place < length l.files);
}
