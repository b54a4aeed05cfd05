use Rattle.std.proofs.Common.{◌≡◌, length, All}
use Rattle.overlap_copy.proofs.Words.{offsets, RunsLie, traded_at, firsts, seconds}
use Rattle.overlap_copy.proofs.exchanges.exchange_pairs.Given as goal

-- the remaining pairs complete what all pairs do
abbrev pub invariant-loop-pair : goal.invariant-loop-pair
invariant-loop-pair l = record {
  rest : traded_at (firsts l.pair-iterator) (seconds l.pair-iterator) l.width (l.block, l.other) ≡ traded_at (offsets l.dst) (offsets l.src) l.width (l.fn.block, l.fn.other);
  len : length l.block ≡ length l.fn.block;
  other_len : length l.other ≡ length l.fn.other;
  lie : All (λ pair. RunsLie pair.first pair.second l.width l.fn.other l.fn.block) l.pair-iterator;
}
