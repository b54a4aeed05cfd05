use Rattle.std.proofs.Common.{ℕ, ◌+◌, ◌≤◌, length, All}
use Rattle.elementwise.proofs.Words.{without_nuls, item_at, offsets}
use Rattle.elementwise.proofs.fast.cut_lengths.longest.Given as goal

-- a length that is enough for the remaining items is enough for all items
abbrev pub invariant-loop-offset : goal.invariant-loop-offset
invariant-loop-offset l = record {
  inside : All (λ offset. offset + l.width ≤ length l.block) l.offset-iterator;
  some : 1 ≤ l.most;
  within : l.most ≤ l.width;
  least : (n : ℕ) → l.most ≤ n → All (λ offset. length (without_nuls (item_at offset l.width l.block)) ≤ n) l.offset-iterator → All (λ offset. length (without_nuls (item_at offset l.width l.block)) ≤ n) (offsets l.layout);
}
