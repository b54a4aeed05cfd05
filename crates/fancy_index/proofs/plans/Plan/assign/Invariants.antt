use Rattle.std.proofs.Common.{◌≡◌, length}
use Rattle.fancy_index.proofs.Words.{offsets, assigned}
use Rattle.fancy_index.proofs.Passes.{Copying}
use Rattle.fancy_index.proofs.plans.Plan.assign.Given as goal

abbrev pub invariant-loop-source : goal.invariant-loop-source
invariant-loop-source l = record {
  pass : Copying l.self.offsets l.source-iterator l.rank l.width l.other l.block (assigned l.self.offsets (offsets l.from) l.width l.other l.fn.block);
  len : length l.block ≡ length l.fn.block;
}
