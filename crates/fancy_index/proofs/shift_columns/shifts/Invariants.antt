use Rattle.std.proofs.Common.{◌≡◌, true, take, drop}
use Rattle.fancy_index.proofs.Words.{all_named, AreSums}
use Rattle.fancy_index.proofs.shift_columns.shifts.Given as goal

abbrev pub invariant-loop-part : goal.invariant-loop-part
invariant-loop-part l = record {
  left : drop l.part-index l.parts ≡ drop l.part-index l.fn.parts;
  named : all_named (take l.part-index l.fn.parts) ≡ true;
  sums : AreSums l.origin.layout.now l.fn.parts l.origin.lengths.now l.origin.start l.shifts.items l.part-index l.axis;
}
