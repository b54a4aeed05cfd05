use Rattle.std.proofs.Common.{◌≡◌, [], All}
use Rattle.overlap_copy.proofs.Words.{offsets, BeginsWithin, firsts, seconds}
use Rattle.overlap_copy.proofs.OverwriteLaws.{IsLeft, overwritten}
use Rattle.overlap_copy.proofs.fast.overwrites.overwrite.Given as goal

-- the remaining pairs complete what all pairs do
abbrev pub invariant-loop-pair : goal.invariant-loop-pair
invariant-loop-pair l = record {
  left : IsLeft (firsts l.pair-iterator) (seconds l.pair-iterator) l.width l.other (l.block, l.kept) (overwritten (offsets l.dst) (offsets l.src) l.width l.other l.fn.block []) 0;
  counts : All (λ pair. pair.first.count ≡ pair.second.count) l.pair-iterator;
  begin : All (λ pair. BeginsWithin pair.first) l.pair-iterator;
  other_begin : All (λ pair. BeginsWithin pair.second) l.pair-iterator;
}
