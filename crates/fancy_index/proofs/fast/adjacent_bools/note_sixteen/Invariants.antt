use Rattle.std.proofs.Common.{◌≡◌, ◌+◌, ◌-◌, ◌*◌, ◌≤◌, ◌++◌, List, ℕ, length, replicate, take}
use Rattle.fancy_index.proofs.Words.{AreBits, ranks_from}
use Rattle.fancy_index.proofs.fast.adjacent_bools.note_sixteen.Given as goal

abbrev pub invariant-loop : goal.invariant-loop
invariant-loop l = record {
  size : length l.found ≡ 512;
  many : l.many ≤ l.fn.many + 4 * l.counter;
  first : l.first ≡ replicate 4 (l.bools.rank + (l.at + 4 * l.counter));
  are : AreBits l.bools (l.at + 4 * l.counter) (16 - 4 * l.counter) l.bits;
  noted : (whole : List ℕ) → take l.fn.many l.fn.found ++ ranks_from l.bools l.at ≡ whole → take l.many l.found ++ ranks_from l.bools (l.at + 4 * l.counter) ≡ whole;
}
