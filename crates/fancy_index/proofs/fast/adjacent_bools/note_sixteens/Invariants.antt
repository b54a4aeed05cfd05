use Rattle.std.proofs.Common.{◌≡◌, ◌+◌, ◌-◌, ◌≤◌, ◌++◌, length, take}
use Rattle.fancy_index.proofs.Words.{ranks_from}
use Rattle.fancy_index.proofs.fast.adjacent_bools.note_sixteens.Given as goal

abbrev pub invariant-loop-at : goal.invariant-loop-at
invariant-loop-at l = record {
  size : length l.found ≡ 512;
  from : l.from ≤ l.at;
  many : l.from + l.many ≤ l.at;
  low : l.at ≤ l.end;
  noted : take l.many l.found ++ ranks_from l.bools l.at ≡ ranks_from l.bools l.from;
}

abbrev pub decreases-loop-at : goal.decreases-loop-at
decreases-loop-at l = l.end - l.at
