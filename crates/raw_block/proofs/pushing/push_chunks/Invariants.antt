use Rattle.std.proofs.Common.{◌≡◌, ◌+◌, ◌-◌, ◌≤◌, ◌++◌, ℕ, List, take, length}
use Rattle.raw_block.proofs.pushing.push_chunks.Given as goal

abbrev pub invariant-loop-done : goal.invariant-loop-done
invariant-loop-done g l = record {
  begin : l.bytes.at ≡ l.fn.bytes.at;
  items : (before : List ℕ) → l.fn.bytes.items ≡ before ++ take l.fn.done l.item → l.bytes.items ≡ before ++ take l.done l.item;
  count : length l.bytes.items ≡ l.from + l.done;
  left : l.done + l.bytes.room ≡ l.fn.done + l.fn.bytes.room;
  within : l.done ≤ length l.item;
}

abbrev pub decreases-loop-done : goal.decreases-loop-done
decreases-loop-done g l = length l.item - l.done
