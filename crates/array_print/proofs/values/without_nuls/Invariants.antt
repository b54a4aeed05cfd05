use Rattle.std.proofs.Common.{◌≡◌, ◌+◌, ◌≤◌, nat_eq, length, take}
use Rattle.array_print.proofs.Words.{suffix_len}
use Rattle.array_print.proofs.values.without_nuls.Given as goal

-- the NULs at the end of the whole string are those cut off so far, and those at the end of what is left
abbrev pub invariant-loop-len : goal.invariant-loop-len
invariant-loop-len l = record {
  within : l.len ≤ length l.bytes;
  cut : l.len + suffix_len (λ b. nat_eq b 0) l.bytes ≡ length l.bytes + suffix_len (λ b. nat_eq b 0) (take l.len l.bytes);
}

abbrev pub decreases-loop-len : goal.decreases-loop-len
decreases-loop-len l = l.len
