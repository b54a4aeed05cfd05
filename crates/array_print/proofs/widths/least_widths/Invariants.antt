use Rattle.std.proofs.Common.{◌≡◌, [], take}
use Rattle.array_print.proofs.Words.{leaves_of, leaf_widths}
use Rattle.array_print.proofs.widths.least_widths.Given as goal

-- the widths of the leaves so far
abbrev pub invariant-loop-k : goal.invariant-loop-k
invariant-loop-k l = l.widths.items ≡ take l.k (leaf_widths (leaves_of l.descr) [])
