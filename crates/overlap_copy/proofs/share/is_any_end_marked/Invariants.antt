use Rattle.std.proofs.Common.{◌≡◌, ◌+◌, ◌≤◌, All}
use Rattle.overlap_copy.proofs.Words.{list_any, max_bytes, is_end_marked}
use Rattle.overlap_copy.proofs.share.is_any_end_marked.Given as goal

-- none was found so far
abbrev pub invariant-loop-offset : goal.invariant-loop-offset
invariant-loop-offset l = record {
  limit : All (λ offset. offset + l.item ≤ max_bytes) l.offset-iterator;
  rest : list_any (is_end_marked l.marks l.start l.item) l.offset-iterator ≡ list_any (is_end_marked l.marks l.start l.item) l.fn.offsets;
}
