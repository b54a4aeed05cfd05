use Rattle.std.proofs.Common.{◌≡◌, ◌-◌, ◌^◌, ◌<◌, length}
use Rattle.raw_block.proofs.Words.{little_from}
use Rattle.raw_block.proofs.item.number_of.Given as goal

abbrev pub invariant-loop-i : goal.invariant-loop-i
invariant-loop-i l = record {
  value : l.number ≡ little_from l.i (length l.item - l.i) l.item;
  small : l.number < 256 ^ (length l.item - l.i);
}
