use Rattle.std.proofs.Common.{◌≤◌, length, All}
use Rattle.overlap_copy.proofs.Words.{flat_map, offsets, BeginsWithin, run_offsets, assigned, sources, MayCome}
use Rattle.overlap_copy.proofs.MovingLaws.{IsMoving}
use Rattle.overlap_copy.proofs.shifted.assign_shifted.Given as goal

-- the remaining runs complete what all runs do
abbrev pub invariant-loop-run : goal.invariant-loop-run
invariant-loop-run l = record {
  moving : IsMoving (flat_map run_offsets l.run-iterator) (sources l.dst.offset l.src.offset (flat_map run_offsets l.run-iterator)) l.width l.fn.block l.block (assigned (offsets l.dst) (offsets l.src) l.width l.fn.block l.fn.block);
  come : MayCome (length l.fn.block) l.width l.dst.offset l.src.offset (flat_map run_offsets l.run-iterator);
  some : All (λ run. 1 ≤ run.count) l.run-iterator;
  begin : All BeginsWithin l.run-iterator;
}
