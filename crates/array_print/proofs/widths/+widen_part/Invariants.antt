use Rattle.std.proofs.Common.{◌≡◌, ◌+◌, ◌*◌, ◌-◌, ◌≤◌, ◌++◌, ℕ, List, get_or, length, take, drop}
use Rattle.array_print.proofs.Words.{count, widths_at, part_offsets}
use Rattle.array_print.proofs.widths.+widen_part.Given as goal

abbrev pub decreases-widen_part : goal.decreases-widen_part
decreases-widen_part l = length l.items.now.layout.now.shape - l.axis

-- the widths are those of the items seen before and of the blocks so far
abbrev pub invariant-loop-k : goal.invariant-loop-k
invariant-loop-k l = record {
  few : l.steps ≤ get_or l.items.layout.now.shape l.axis 0;
  wide : (seen : List ℕ) → l.fn.widths ≡ widths_at l.items.descr.now l.items.block.now seen →
      l.widths ≡ widths_at l.items.descr.now l.items.block.now (seen ++ take (l.k * count (drop (l.axis + 1) l.items.layout.now.shape)) (part_offsets l.items.layout.now l.axis l.offset));
}
