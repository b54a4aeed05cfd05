use Rattle.std.proofs.Common.{◌≡◌, length, All}
use Rattle.overlap_copy.proofs.Words.{offsets, RunsLie, assigned, firsts, seconds}
use Rattle.overlap_copy.proofs.assignment.assign_in_order.Given as goal

-- the remaining pairs complete what all pairs do
abbrev pub invariant-loop-pair : goal.invariant-loop-pair
invariant-loop-pair l = record {
  rest : assigned (firsts l.pair-iterator) (seconds l.pair-iterator) l.width l.other l.block ≡ assigned (offsets l.dst) (offsets l.src) l.width l.other l.fn.block;
  len : length l.block ≡ length l.fn.block;
  lie : All (λ pair. RunsLie pair.first pair.second l.width l.other l.fn.block) l.pair-iterator;
}
