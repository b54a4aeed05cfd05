use Rattle.std.proofs.Common.{◌≡◌, ◌+◌, ◌*◌, ◌++◌, pos, ◌+ℤ◌, ◌*ℤ◌}
use Rattle.literal_items.proofs.Words.{low_bits, joined, numbered}
use Rattle.literal_items.proofs.range.CountingNumberTask.run.Given as goal

-- the numbers so far are appended, and the lowest bits of the next one are known
abbrev pub invariant-loop-done : goal.invariant-loop-done
invariant-loop-done g l = record {
  bits : l.bits ≡ low_bits 8 (l.fn.self.start.now +ℤ l.fn.self.step.now *ℤ pos l._done);
  bytes : l.block.0 ≡ l.fn.self.block.0 ++ joined (numbered (g.N.Number.scalar g.O.Ordered.order) l.fn.self.start.now l.fn.self.step.now) l._done;
  left : l._done * g.N.Number.WIDTH + l.block.1 ≡ l.fn.self.block.1;
}
