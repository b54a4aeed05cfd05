use Rattle.std.proofs.Common.{◌≡◌, ◌++◌, take, drop}
use Rattle.npy_format.proofs.Words.{capped}
use Rattle.npy_format.proofs.items.cap.Given as goal

-- the bytes so far are capped
abbrev pub invariant-loop-k : goal.invariant-loop-k
invariant-loop-k l = take l.k l.bytes ++ capped (drop l.k l.bytes) (drop l.k l.limits) ≡ capped l.fn.bytes l.limits
