use Rattle.std.proofs.Common.{◌≡◌, ◌++◌, map, drop}
use Rattle.fancy_index.proofs.Words.{other_axes, shown_part}
use Rattle.fancy_index.proofs.result_axes.shape_of_all.Given as goal

abbrev pub invariant-loop-part : goal.invariant-loop-part
invariant-loop-part l = l.lengths.items ++ other_axes (map shown_part (drop l.part-index l.parts)) ≡ other_axes (map shown_part l.parts)
