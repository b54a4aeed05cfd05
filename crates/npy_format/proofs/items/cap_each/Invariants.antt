use Rattle.std.proofs.Common.{◌≡◌, ◌-◌, ◌≤◌, ◌++◌, length, take, drop}
use Rattle.npy_format.proofs.Words.{repeat, capped}
use Rattle.npy_format.proofs.items.cap_each.Given as goal

-- the bytes so far are capped
abbrev pub invariant-loop-at : goal.invariant-loop-at
invariant-loop-at l = record {
  low : l.at ≤ length l.bytes;
  rest : take l.at l.bytes ++ capped (drop l.at l.bytes) (repeat (length l.fn.bytes) l.limits) ≡ capped l.fn.bytes (repeat (length l.fn.bytes) l.limits);
}

abbrev pub decreases-loop-at : goal.decreases-loop-at
decreases-loop-at l = length l.initial.bytes - l.at
