use Rattle.std.proofs.Common.{◌≡◌, ◌+◌, ◌≤◌, ◌++◌, All}
use Rattle.fancy_index.proofs.Words.{max_bytes, offsets}
use Rattle.fancy_index.proofs.fast.offset_tables.offsets_of.Given as goal

abbrev pub invariant-loop-offset : goal.invariant-loop-offset
invariant-loop-offset l = record {
  all : l.list.items ++ l.offset-iterator ≡ offsets l.layout;
  small : All (λ offset. offset ≤ max_bytes) l.list.items;
  left : All (λ offset. offset + 1 ≤ max_bytes) l.offset-iterator;
}
