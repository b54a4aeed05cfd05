use Rattle.std.proofs.Common.{◌≡◌, ◌+◌, ◌≤◌, ◌++◌, ℕ, List, length, take}
use Rattle.fancy_index.proofs.Words.{ranks_from}
use Rattle.fancy_index.proofs.bools.note_true.Given as goal

abbrev pub invariant-loop-k : goal.invariant-loop-k
invariant-loop-k l = record {
  size : length l.found ≡ 512;
  many : l.from + l.many ≤ l.k + l.fn.many;
  low : l.k ≤ l.end;
  noted : (whole : List ℕ) → take l.fn.many l.fn.found ++ ranks_from l.bools l.from ≡ whole → take l.many l.found ++ ranks_from l.bools l.k ≡ whole;
}
