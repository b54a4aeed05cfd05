use Rattle.std.proofs.Common.{◌≡◌, ◌-◌, ◌*◌, length}
use Rattle.overlap_copy.proofs.Words.{BeginsWithin, run_offsets}
use Rattle.overlap_copy.proofs.OverwriteLaws.{IsLeft, overwritten}
use Rattle.overlap_copy.proofs.fast.overwrites.overwrite_run.Given as goal

-- the rest of the run completes what the whole run does
abbrev pub invariant-loop-left : goal.invariant-loop-left
invariant-loop-left l = record {
  left : IsLeft (run_offsets l.left.first) (run_offsets l.left.second) l.width l.other (l.block, l.kept)
      (overwritten (run_offsets l.fn.pair.first) (run_offsets l.fn.pair.second) l.width l.other l.fn.block l.fn.kept.0) (l.fn.kept.1 - length (run_offsets l.fn.pair.first) * l.width);
  len : length l.block ≡ length l.fn.block;
  count : l.left.first.count ≡ l.left.second.count;
  begins : BeginsWithin l.left.first;
  other_begins : BeginsWithin l.left.second;
}

abbrev pub decreases-loop-left : goal.decreases-loop-left
decreases-loop-left l = l.left.first.count
