use Rattle.std.proofs.Common.{◌≡◌, true, take}
use Rattle.fancy_index.proofs.Words.{all_named}
use Rattle.fancy_index.proofs.index_parts.check_numbers.Given as goal

abbrev pub invariant-loop-part : goal.invariant-loop-part
invariant-loop-part l = all_named (take l.part-index l.parts) ≡ true
