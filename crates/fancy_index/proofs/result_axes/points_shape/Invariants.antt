use Rattle.std.proofs.Common.{◌≡◌, map, drop}
use Rattle.fancy_index.proofs.Words.{common_with, point_shapes, as_index_shapes, points_shape, shown_part}
use Rattle.fancy_index.proofs.result_axes.points_shape.Given as goal

abbrev pub invariant-loop-part : goal.invariant-loop-part
invariant-loop-part l = as_index_shapes (common_with l.lengths.items (point_shapes (map shown_part (drop l.part-index l.parts)))) ≡ points_shape (map shown_part l.parts)
