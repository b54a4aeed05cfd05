use Rattle.std.proofs.Common.{◌≡◌, ℕ, ◌+◌, ◌≤◌, ◌<◌, ◌||◌, false, length, get_or, nat_eq, All}
use Rattle.overlap_copy.proofs.Words.{list_any}
use Rattle.overlap_copy.proofs.share.mark_each.Given as goal

-- the remaining offsets add the missing marks
abbrev pub invariant-loop-offset : goal.invariant-loop-offset
invariant-loop-offset l = record {
  low : All (λ offset. l.start ≤ offset) l.offset-iterator;
  high : All (λ offset. offset < l.start + length l.fn.marks) l.offset-iterator;
  value : (i : ℕ) → i < length l.fn.marks → (get_or l.marks i false || list_any (nat_eq (l.start + i)) l.offset-iterator) ≡ (get_or l.fn.marks i false || list_any (nat_eq (l.start + i)) l.fn.offsets);
}
