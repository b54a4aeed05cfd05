use Rattle.std.proofs.Common.{All}
use Rattle.overlap_copy.proofs.Words.{offsets, IsNested, RunsLie, assigned, LieApart, firsts, seconds}
use Rattle.overlap_copy.proofs.MovingLaws.{IsMoving}
use Rattle.overlap_copy.proofs.assignment.assign.Given as goal

-- the remaining pairs complete what all pairs do
abbrev pub invariant-loop-pair : goal.invariant-loop-pair
invariant-loop-pair l = record {
  moving : IsMoving (firsts l.pair-iterator) (seconds l.pair-iterator) l.width l.fn.block l.block (assigned (offsets l.dst) (offsets l.src) l.width l.fn.block l.fn.block);
  lie : All (λ pair. RunsLie pair.first pair.second l.width l.fn.block l.fn.block) l.pair-iterator;
  nested : IsNested (firsts l.pair-iterator) l.width;
  apart : LieApart l.width (firsts l.pair-iterator) (seconds l.pair-iterator);
}
